use Rattle.std.proofs.Common.{◌++◌, subst, List, length}
use Rattle.std.specs.List.{IsDistinct}
use Rattle.munge_types.specs.History.{accepted}
use Rattle.munge_types.specs.Pair.{pair_eq}
use Rattle.munge_types.specs.declared.pair.Pair.{Pair}
use Rattle.session_core.proofs.AcceptedPairs.{IsDistinct-behind, OneMore, accepted_grown, by_rule}
use Rattle.session_core.proofs.laws.no_pair_is_accepted_twice.Goals as goal
use Rattle.session_core.specs.Answering.{before_decode}
use Rattle.session_core.specs.RoundTrip.{pairs_accepted}

pub returns-clause-grown : goal.returns-clause-grown
returns-clause-grown c = accepted_grown
    (record { admit = c.one_more_event.ensures.admit_accepted; purge = c.one_more_event.ensures.purge_accepted })

pub returns-clause-anew : goal.returns-clause-anew
returns-clause-anew c = λ session own requests outcome run.
    let more : OneMore = record { admit = c.one_more_event.ensures.admit_accepted; purge = c.one_more_event.ensures.purge_accepted } in
    subst (λ (pairs : List Pair). IsDistinct pair_eq pairs) (accepted_grown more session own requests outcome run)
    (c.no_pair_is_accepted_twice.ensures.once (session.base ++ outcome.own.events))

pub returns-clause-once : goal.returns-clause-once
returns-clause-once c = λ session own requests outcome run.
    let more : OneMore = record { admit = c.one_more_event.ensures.admit_accepted; purge = c.one_more_event.ensures.purge_accepted } in
    IsDistinct-behind pair_eq (accepted (session.base ++ own.events)) (pairs_accepted session own requests outcome run)
    (subst (λ (pairs : List Pair). IsDistinct pair_eq pairs) (accepted_grown more session own requests outcome run)
    (c.no_pair_is_accepted_twice.ensures.once (session.base ++ outcome.own.events)))

pub returns-clause-rule : goal.returns-clause-rule
returns-clause-rule c = λ session own text outcome answers.
    let before = before_decode session.base own.events answers.moment in
    by_rule session.terms (session.base ++ before) answers.moment (length before) text answers.decodes.finding answers.decodes.finds
