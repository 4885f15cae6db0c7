use Rattle.std.proofs.Common.{ℕ, List, length, ap, sym, ◌∙◌, subst, arith}
use Rattle.munge_types.specs.StandsFor.{Stands}
use Rattle.munge_types.proofs.HistoryLemmas.{accepted-distinct}
use Rattle.replay_gate.specs.declared.view.View.{View}
use Rattle.replay_gate.specs.declared.gate.Origin.{Origin}
use Rattle.replay_gate.specs.IsPass.{the_view}
use Rattle.replay_gate.specs.Makers.{AreMadeBy}
use Rattle.replay_gate.specs.PassState.{GateId, PassState}
use Rattle.replay_gate.proofs.Ends.{ends}
use Rattle.replay_gate.proofs.gate.Gate.close.Goals as goal

pub returns-clause-once : goal.returns-clause-once
returns-clause-once g c = accepted-distinct c.args.pass.seen

pub returns-clause-stands : goal.returns-clause-stands
returns-clause-stands g c =
    let view = sym (ap the_view c.into_seat.ensures.2) in
    let share = ap (λ (z : View). z.share) view ∙ (ap (λ (z : PassState). z.share) c.pass.view_is ∙ (c.requires.whole ∙ (sym (ap (λ (z : GateId). z.passes) c.self.view_is) ∙ sym (ap (λ (z : Origin). z.passes) c.self.invariant.told_is)))) in
    let seen = ap (λ (z : View). z.seen) view ∙ ap (λ (z : PassState). z.seen) c.pass.view_is in
    let told = ends _ _ _ _ _ _ _ c.close_with-closed.ensures.values.2 (ap (λ (z : View). z.stage) view ∙ c.pass.invariant.rests) share c.take-state.result c.take-state.ensures.value in
    subst (Stands (g.R.Replay.remembered c.take-state.result)) seen told.0

pub returns-clause-made : goal.returns-clause-made
returns-clause-made g c =
    let view = sym (ap the_view c.into_seat.ensures.2) in
    let share = ap (λ (z : View). z.share) view ∙ (ap (λ (z : PassState). z.share) c.pass.view_is ∙ (c.requires.whole ∙ (sym (ap (λ (z : GateId). z.passes) c.self.view_is) ∙ sym (ap (λ (z : Origin). z.passes) c.self.invariant.told_is)))) in
    let seen = ap (λ (z : View). z.seen) view ∙ ap (λ (z : PassState). z.seen) c.pass.view_is in
    let numbers = ap (λ (z : View). z.numbers) view ∙ ap (λ (z : PassState). z.numbers) c.pass.view_is in
    let told = ends _ _ _ _ _ _ _ c.close_with-closed.ensures.values.2 (ap (λ (z : View). z.stage) view ∙ c.pass.invariant.rests) share c.take-state.result c.take-state.ensures.value in
    subst (AreMadeBy c.args.pass.numbers) seen (subst (λ (l : List ℕ). AreMadeBy l c.into_seat.result.me.0.seen) numbers told.2)

pub returns-clause-highest : goal.returns-clause-highest
returns-clause-highest g c =
    let view = sym (ap the_view c.into_seat.ensures.2) in
    let share = ap (λ (z : View). z.share) view ∙ (ap (λ (z : PassState). z.share) c.pass.view_is ∙ (c.requires.whole ∙ (sym (ap (λ (z : GateId). z.passes) c.self.view_is) ∙ sym (ap (λ (z : Origin). z.passes) c.self.invariant.told_is)))) in
    let seen = ap (λ (z : View). length z.seen) view ∙ ap (λ (z : PassState). length z.seen) c.pass.view_is in
    let highest = ap (λ (z : View). z.highest) view ∙ ap (λ (z : PassState). z.highest) c.pass.view_is in
    let start = ap (λ (z : Origin). z.start) c.self.invariant.told_is ∙ ap (λ (z : GateId). z.start) c.self.view_is in
    let told = ends _ _ _ _ _ _ _ c.close_with-closed.ensures.values.2 (ap (λ (z : View). z.stage) view ∙ c.pass.invariant.rests) share c.take-state.result c.take-state.ensures.value in
    let bound = told.1 in omega arith

pub returns-clause-not_worn : goal.returns-clause-not_worn
returns-clause-not_worn g c = λ fresh short. let bound = returns-clause-highest g c in omega arith
