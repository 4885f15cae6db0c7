use Rattle.wire_msg.proofs.ByteLists.{append_bytes}
use Rattle.wire_msg.proofs.begun.Begun.missing.Goals as goal

pub returns-clause-bytes : goal.returns-clause-bytes
returns-clause-bytes c =
    rw (← c.self.view_is) (append_bytes _ _ c.self.invariant.field_bytes c.self.invariant.tail_bytes)
