use Rattle.std.proofs.Common.{arith, refl, ap, sym, ◌∙◌, ◌≡◌, ◌++◌, Ok, ℕ, ◌⊎◌}
use Rattle.std.specs.declared.option.Option.TheVariants.{None, Some}
use Rattle.std.proofs.lemmas.Result.{IfErr-at_err, MatchResult-from_err, err_from_is_err_and}
use Rattle.wire_msg.proofs.Answered.{answers_bad, came_none, came_some, came_whole, front_part, front_broken, front_whole}
use Rattle.wire_msg.proofs.Frames.{no_frame, some_frame, unfinished_prefix}
use Rattle.wire_msg.proofs.Waiting.{taken_out}
use Rattle.wire_msg.specs.Frame.{BeginsFrame, IsUnfinished}
use Rattle.wire_msg.proofs.feeder.Feeder.feed.Goals as goal

pub invariant_of-self : goal.invariant_of-self
invariant_of-self c =
    taken_out c.self.inside.side c.self.inside.front c.self.inside.begun c.take.new.self c.in-Some.begun
    (sym c.take.ensures.value ∙ c.in-Some.is) c.self.invariant c.take.ensures.after

pub returns-in-Some-clause-bad : goal.returns-in-Some-clause-bad
returns-in-Some-clause-bad c =
    let some : c.self.inside.begun ≡ Some c.in-Some.begun = sym c.take.ensures.value ∙ c.in-Some.is in
    let same = came_some c.self.inside.front c.args.piece.now c.self.inside.begun c.in-Some.begun some in
    rw (← c.self.view_is) (λ none. ap Ok (answers_bad _ c.args.piece.now c.go_on.result (c.go_on.ensures.answers _ same) none))

pub returns-in_err-begun-in-Whole-clause-wants_memory : goal.returns-in_err-begun-in-Whole-clause-wants_memory
returns-in_err-begun-in-Whole-clause-wants_memory c =
    let none : c.self.inside.begun ≡ None = sym c.take.ensures.value ∙ c.in_default.is in
    let unfinished = came_none c.self.inside.front c.self.inside.begun none in
    let bytes = λ (i : ℕ). c.type_inv.piece i in
    let whole : BeginsFrame c.args.self.now.side (c.args.self.now.unfinished ++ c.args.piece.now)
    ⊎ IsUnfinished c.args.self.now.side (c.args.self.now.unfinished ++ c.args.piece.now) =
    rw (← c.self.view_is, unfinished)
    (front_whole c.self.inside.side c.in-Whole.head.kind c.in-Whole.head.size c.self.inside.front c.args.piece.now
    (λ i. omega (arith, bytes i)) c.in-Whole.ensures.0 (sym c.in-Whole.ensures.1 ∙ (c.bytes.ensures ∙ c.front_with-front.ensures))) in
    MatchResult-from_err c.from_residual.result _ _ c.from_residual.ensures.0 (λ refused. whole)

pub returns-in_err-begun-in-Whole-clause-bad : goal.returns-in_err-begun-in-Whole-clause-bad
returns-in_err-begun-in-Whole-clause-bad c =
    let returned = err_from_is_err_and c.from_residual.result c.from_residual.ensures.1 in
    let whole = IfErr-at_err _ returned.1 (returns-in_err-begun-in-Whole-clause-wants_memory c) in
    λ nothing. absurd (some_frame c.args.self.now.side (c.args.self.now.unfinished ++ c.args.piece.now) whole nothing)

pub returns-in_ok-begun-in-Whole-clause-bad : goal.returns-in_ok-begun-in-Whole-clause-bad
returns-in_ok-begun-in-Whole-clause-bad c =
    let none : c.self.inside.begun ≡ None = sym c.take.ensures.value ∙ c.in_default.is in
    let unfinished = came_none c.self.inside.front c.self.inside.begun none in
    let same =
    came_whole c.in_ok-begun-in-Whole.begun c.in-Whole.head.kind c.in-Whole.head.size c.self.inside.front c.args.piece.now c.front_with-front.result _
    c.in_ok-begun-in-Whole.ensures.kind c.in_ok-begun-in-Whole.ensures.size c.in_ok-begun-in-Whole.ensures.body
    (sym c.bytes.ensures ∙ c.in-Whole.ensures.1) c.front_with-front.ensures (rw (c.len.ensures, c.len-in-Whole.ensures) refl) in
    rw (← c.self.view_is, unfinished)
    (λ nothing. ap Ok (answers_bad _ c.args.piece.now c.go_on-in-Whole.result (c.go_on-in-Whole.ensures.answers c.self.inside.front same) nothing))

pub returns-in-Part-clause-answers : goal.returns-in-Part-clause-answers
returns-in-Part-clause-answers c =
    let none : c.self.inside.begun ≡ None = sym c.take.ensures.value ∙ c.in_default.is in
    let unfinished = came_none c.self.inside.front c.self.inside.begun none in
    let waits = rw none at c.self.invariant in
    let sees = rw c.bytes.ensures at c.in-Part.ensures in
    rw (← c.self.view_is, unfinished)
    (front_part c.self.inside.side c.self.inside.front c.args.piece.now c.front_with-front.result waits.0 c.front_with-front.ensures sees.0 sees.1)

pub returns-in-Part-clause-bad : goal.returns-in-Part-clause-bad
returns-in-Part-clause-bad c =
    λ none. absurd (none.goes_on_to_none (unfinished_prefix c.args.self.now.side (c.args.self.now.unfinished ++ c.args.piece.now) (returns-in-Part-clause-answers c)))

pub returns-in-Broken-clause-answers : goal.returns-in-Broken-clause-answers
returns-in-Broken-clause-answers c =
    let none : c.self.inside.begun ≡ None = sym c.take.ensures.value ∙ c.in_default.is in
    let unfinished = came_none c.self.inside.front c.self.inside.begun none in
    rw (← c.self.view_is, unfinished)
    (front_broken c.self.inside.side c.self.inside.front c.args.piece.now c.front_with-front.result c.front_with-front.ensures (rw c.bytes.ensures at c.in-Broken.ensures), refl)

pub returns-in-Broken-clause-leaves : goal.returns-in-Broken-clause-leaves
returns-in-Broken-clause-leaves c =
    let unfinished = came_none c.front_with-front.result c.take.new.self c.take.ensures.after in
    rw (← c.self.view_is, unfinished)
    (λ more. no_frame c.self.inside.side c.front_with-front.result more (rw c.bytes.ensures at c.in-Broken.ensures), refl)
