use Rattle.std.proofs.Common.{ap, sym, ◌∙◌, arith}
use Rattle.replay_gate.specs.PassState.{GateId}
use Rattle.replay_gate.proofs.Seats.{leaves_at}
use Rattle.replay_gate.proofs.gate.Gate.leave.Goals as goal

pub fetch_add-requires : goal.fetch_add-requires
fetch_add-requires g c =
    let words = c.self.invariant.words in (
      c.requires.gate ∙ sym (ap (λ (z : GateId). z.table) c.self.view_is),
      omega arith,
      leaves_at _ _ _ _ _ _ _ _ c.requires.state c.requires.turn.1 c.requires.own c.self.invariant.slots,
    )
