use Rattle.std.proofs.Common.{ap, sym, ◌∙◌, arith}
use Rattle.replay_gate.specs.PassState.{GateId}
use Rattle.replay_gate.proofs.Seats.{looks_at}
use Rattle.replay_gate.proofs.gate.Gate.wait.Goals as goal

pub load-requires : goal.load-requires
load-requires g c =
    let words = c.self.invariant.words in (
      c.loop.invariant.0 ∙ (c.requires.gate ∙ sym (ap (λ (z : GateId). z.table) c.self.view_is)),
      omega arith,
      looks_at _ _ _ _ _ _ _ (ap (λ m. m.1) c.loop.invariant.1 ∙ c.requires.holds_nothing) (ap (λ m. m.0.stage) c.loop.invariant.1 ∙ c.requires.waits),
    )
