use Rattle.std.proofs.Common.{ap, sym, ◌∙◌, arith}
use Rattle.replay_gate.specs.PassState.{GateId}
use Rattle.replay_gate.specs.Views.{part_of}
use Rattle.replay_gate.proofs.Meeting.{joins_allowed}
use Rattle.replay_gate.proofs.Seats.{compares_at, has_met}
use Rattle.replay_gate.proofs.gate.Gate.join.Goals as goal

pub join_seat-requires : goal.join_seat-requires
join_seat-requires g c =
    let words = c.self.invariant.words in
    let table = sym (ap (λ (z : GateId). z.table) c.self.view_is) in (
      c.requires.gate.0 ∙ table,
      c.requires.gate.1 ∙ table,
      c.requires.rests.1.holds_nothing,
      omega arith,
      joins_allowed _ _ _ _ _ _ _ c.requires.rests.0.rests c.requires.rests.1.rests c.requires.rests.0.alive,
    )

pub load-requires : goal.load-requires
load-requires g c =
    let words = c.self.invariant.words in
    let table = sym (ap (λ (z : GateId). z.table) c.self.view_is) in (
      c.join_seat.ensures.0 ∙ (c.requires.gate.0 ∙ table),
      omega arith,
      compares_at _ _ _ _ _ _ (part_of c.args.seat.now.me.0) (part_of c.args.other.me.0) (ap (λ m. m.1) c.join_seat.ensures.2 ∙ c.requires.rests.0.holds_nothing)
          (ap (λ m. m.0.stage) c.join_seat.ensures.2),
    )

pub returns-clause-met : goal.returns-clause-met
returns-clause-met g c = has_met _ _ _ _ (ap (λ m. m.0) c.join_seat.ensures.2) c.load.ensures.2
