-- What is dropped are the first groups, so many as the slice has of those below the floor.
use Rattle.std.proofs.Common.{◌≡◌, ℕ, ◌+◌, min, List, length, ap, arith}
use Rattle.std.proofs.lemmas.List.Sorted.{IsPermutation-refl}
use Rattle.munge_types.proofs.ExpiryLemmas.{expiries_below-le}
use Rattle.munge_types.proofs.LiveLemmas.{live_after_purge}
use Rattle.munge_types.proofs.PurgeLemmas.{stands_after_purge, live_where_none_left, none_left}
use Rattle.munge_types.specs.Purge.{expiries_below}
use Rattle.replay_table.proofs.GroupLemmas.{purged-pairs_of, expiries_below-drop, length-pairs_of-drop}
use Rattle.replay_table.proofs.replay_table.ReplayTableReplay.purge.Goals as goal
use Rattle.replay_table.proofs.replay_table.ReplayTableReplay.purge.Goals.{After-len}
use Rattle.replay_table.proofs.replay_table.ReplayTableReplay.purge.Given.{Over}
use Rattle.replay_table.specs.Expiries.{HasExpiries}
use Rattle.replay_table.specs.Groups.{pairs_of}

-- those that were below the old floor, and those that the floor passes
all_below : (below passed floor from raised to : ℕ) (groups : List (ℕ × List (List ℕ))) → below ≡ expiries_below floor (pairs_of groups)
    → from ≡ floor → to ≡ raised → HasExpiries from to passed (pairs_of groups)
    → below + passed ≡ expiries_below raised (pairs_of groups)
all_below below passed floor from raised to groups were at until counted =
    omega (arith, ap (λ bound. expiries_below bound (pairs_of groups)) at, ap (λ bound. expiries_below bound (pairs_of groups)) until)

pub overflow_add-below : goal.overflow_add-below
overflow_add-below g c =
    let all = all_below c.args.self.now.below c.expiries_between-passed.result c.args.self.now.floor c.from.result c.max-floor.result c.from-2.result
    c.args.self.now.pairs c.args.self.now.counted c.from.ensures c.from-2.ensures c.expiries_between-passed.ensures.counted in
    omega (arith, all, expiries_below-le c.max-floor.result (pairs_of c.args.self.now.pairs))

pub invariant_of-self : goal.invariant_of-self
invariant_of-self g c = record {
  counted =
      let groups = c.args.self.now.pairs in
      let all = all_below c.args.self.now.below c.expiries_between-passed.result c.args.self.now.floor c.from.result c.max-floor.result c.from-2.result
      groups c.args.self.now.counted c.from.ensures c.from-2.ensures c.expiries_between-passed.ensures.counted in
      let fewer = expiries_below-drop c.max-floor.result c.min-count.result groups c.expiries_between-passed.ensures.grouped (omega (arith, all)) in
      rw c.drop_least_expiries.ensures (omega (arith, all, fewer));
}

pub overflow_sub-result : goal.overflow_sub-result
overflow_sub-result g c =
    omega (
      arith,
      ap (λ groups. length (pairs_of groups)) c.drop_least_expiries.ensures,
      length-pairs_of-drop c.min-count.result c.args.self.now.pairs,
    )

-- how many expiries are below the raised floor before anything is dropped
below_floor : (g : Over) (c : After-len g)
    → c.args.self.now.below + c.expiries_between-passed.result ≡ expiries_below c.max-floor.result (pairs_of c.args.self.now.pairs)
below_floor g c =
    all_below c.args.self.now.below c.expiries_between-passed.result c.args.self.now.floor c.from.result c.max-floor.result c.from-2.result
    c.args.self.now.pairs c.args.self.now.counted c.from.ensures c.from-2.ensures c.expiries_between-passed.ensures.counted

pub returns-clause-kept : goal.returns-clause-kept
returns-clause-kept g c =
    let groups = c.args.self.now.pairs in
    let count : min (expiries_below c.max-floor.result (pairs_of groups)) c.args.slice ≡ c.min-count.result = omega (arith, below_floor g c) in
    rw (purged-pairs_of c.max-floor.result c.args.slice groups c.expiries_between-passed.ensures.grouped, count, c.drop_least_expiries.ensures)
    (IsPermutation-refl _)

pub returns-clause-dropped : goal.returns-clause-dropped
returns-clause-dropped g c = omega (arith, overflow_sub-result g c)

pub returns-clause-left : goal.returns-clause-left
returns-clause-left g c = omega (arith, below_floor g c)

pub returns-clause-whole : goal.returns-clause-whole
returns-clause-whole g c = λ all.
    none_left c.max-floor.result c.args.slice _ (pairs_of c.args.self.now.pairs) (returns-clause-left g c) (omega (arith, all))

pub returns-clause-only_live : goal.returns-clause-only_live
returns-clause-only_live g c = λ none.
    live_where_none_left c.max-floor.result c.args.slice _ (pairs_of c.args.self.now.pairs) _ (returns-clause-left g c) none (returns-clause-kept g c)

pub returns-clause-stands : goal.returns-clause-stands
returns-clause-stands g c = λ history pass stands.
    let kept = rw c.max-floor.ensures at (returns-clause-kept g c) in
    rw c.max-floor.ensures (stands_after_purge c.args.slice c.args.self.now.floor _ _ history pass c.args.moment kept stands)

pub returns-clause-live : goal.returns-clause-live
returns-clause-live g c = λ none history pass stands.
    let kept = rw c.max-floor.ensures at (returns-clause-only_live g c none) in
    live_after_purge c.args.self.now.floor _ _ history pass c.args.moment kept stands
