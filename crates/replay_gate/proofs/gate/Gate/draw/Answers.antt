use Rattle.std.proofs.Common.{ap, sym, ◌∙◌, arith}
use Rattle.replay_gate.specs.PassState.{GateId}
use Rattle.replay_gate.proofs.Seats.{asks_at, draws_at}
use Rattle.replay_gate.proofs.gate.Gate.draw.Goals as goal

pub load-found-requires : goal.load-found-requires
load-found-requires g c =
    let words = c.self.invariant.words in (
      c.requires.gate ∙ sym (ap (λ (z : GateId). z.table) c.self.view_is),
      omega arith,
      asks_at _ _ _ _ _ _ c.requires.rests,
    )

pub fetch_add-requires : goal.fetch_add-requires
fetch_add-requires g c =
    let words = c.self.invariant.words in (
      c.load-found.ensures.0 ∙ (c.requires.gate ∙ sym (ap (λ (z : GateId). z.table) c.self.view_is)),
      omega arith,
      draws_at _ _ _ _ _ _ _ _ c.load-found.ensures.2 c.if-found-ge-WORN_AT.false,
    )
