-- A pair that is not expired is accepted exactly where the set does not hold it, and never adds to the expiries below the floor.
use Rattle.std.proofs.Common.{◌≡◌, ◌≤◌, ℕ, max, List, Result, Ok, Err, OnOk, OnErr, ◌++◌, ◌∷◌, [], ap, sym, ◌∙◌, arith}
use Rattle.std.specs.List.Sorted.{IsPermutation}
use Rattle.munge_types.proofs.HistoryLemmas.{verdict_among-accepted}
use Rattle.munge_types.proofs.StandsForLemmas.{stands_after_admit}
use Rattle.munge_types.specs.Purge.{expiries_below}
use Rattle.munge_types.specs.declared.pair.Pair.{Pair}
use Rattle.replay_table.proofs.GroupLemmas.{expiries_below-more}
use Rattle.replay_table.proofs.replay_table.ReplayTableReplay.admit.Goals as goal
use Rattle.replay_table.specs.Groups.{pairs_of}

as_many_below : {T E : Type 0} (r : Result T E) (floor : ℕ) (groups others : List (ℕ × List (List ℕ))) (pair : Pair) → floor ≤ pair.expiry
    → OnOk r (IsPermutation (pairs_of groups ++ pair ∷ []) (pairs_of others)) → OnErr r (others ≡ groups)
    → expiries_below floor (pairs_of groups) ≡ expiries_below floor (pairs_of others)
as_many_below (Ok x) floor groups others pair above moved same = expiries_below-more floor (pairs_of groups) (pairs_of others) pair above moved
as_many_below (Err e) floor groups others pair above moved same = ap (λ gs. expiries_below floor (pairs_of gs)) (sym same)

pub invariant_of-self : goal.invariant_of-self
invariant_of-self g c = record {
  counted = c.args.self.now.counted
      ∙ as_many_below c.insert.result c.args.self.now.floor c.args.self.now.pairs c.insert.new.self c.args.pair.now (omega arith)
      c.insert.ensures.inserted c.insert.ensures.err;
}

pub returns-clause-stands : goal.returns-clause-stands
returns-clause-stands g c = λ history pass stands.
    let kept = pairs_of c.args.self.now.pairs in
    let above : max c.args.moment c.args.self.now.floor ≤ c.args.pair.now.expiry = omega arith in
    let said = verdict_among-accepted c.args.self.now.floor kept c.args.pair.now c.args.moment above (sym c.if-contains.ensures) in
    stands_after_admit c.args.self.now.floor kept (pairs_of c.insert.new.self) history pass c.args.pair.now c.args.moment
    (rw said c.in_ok-insert.ensures.inserted) stands
