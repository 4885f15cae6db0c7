use Rattle.std.proofs.Common.{ap, sym, ◌∙◌, arith}
use Rattle.replay_gate.specs.PassState.{GateId}
use Rattle.replay_gate.proofs.Meeting.{splits_allowed}
use Rattle.replay_gate.proofs.gate.Gate.cut.Goals as goal

pub split_seat-requires : goal.split_seat-requires
split_seat-requires g c =
    let words = c.self.invariant.words in (
      c.requires.gate ∙ sym (ap (λ (z : GateId). z.table) c.self.view_is),
      omega arith,
      splits_allowed _ _ _ _ _ _ c.requires.rests.rests c.requires.several c.requires.spare,
    )
