-- A pair that is not expired is accepted exactly where the list does not hold it, and the list that is left is the history's.
use Rattle.std.proofs.Common.{◌≡◌, ◌≤◌, max, true, false, sym, ◌∙◌, arith}
use Rattle.std.proofs.lemmas.List.Sorted.{IsPermutation-refl}
use Rattle.std.specs.List.{list_any}
use Rattle.munge_types.proofs.HistoryLemmas.{verdict_among-replayed, verdict_among-accepted}
use Rattle.munge_types.proofs.PairLemmas.{list_any-flipped}
use Rattle.munge_types.proofs.StandsForLemmas.{stands_after_admit}
use Rattle.munge_types.specs.Pair.{pair_eq}
use Rattle.replay_table.proofs.plain_replay.PlainReplayReplay.admit.Goals as goal

pub returns-then-contains-clause-stands : goal.returns-then-contains-clause-stands
returns-then-contains-clause-stands c = λ history pass stands.
    let kept = c.args.self.now.pairs.items in
    let above : max c.args.moment c.args.self.now.floor ≤ c.args.pair.now.expiry = omega arith in
    let was = rw c.deref.ensures.value at (sym c.if-contains.ensures.value) in
    let found : list_any (pair_eq c.args.pair.now) kept ≡ true = sym (list_any-flipped kept c.args.pair.now) ∙ was in
    let said = verdict_among-replayed c.args.self.now.floor kept c.args.pair.now c.args.moment above found in
    stands_after_admit c.args.self.now.floor kept kept history pass c.args.pair.now c.args.moment (rw said (IsPermutation-refl _)) stands

pub returns-clause-stands : goal.returns-clause-stands
returns-clause-stands c = λ history pass stands.
    let kept = c.args.self.now.pairs.items in
    let above : max c.args.moment c.args.self.now.floor ≤ c.args.pair.now.expiry = omega arith in
    let was = rw c.deref.ensures.value at (sym c.if-contains.ensures.value) in
    let new : list_any (pair_eq c.args.pair.now) kept ≡ false = sym (list_any-flipped kept c.args.pair.now) ∙ was in
    let said = verdict_among-accepted c.args.self.now.floor kept c.args.pair.now c.args.moment above new in
    stands_after_admit c.args.self.now.floor kept _ history pass c.args.pair.now c.args.moment
    (rw (said, c.in_ok-push.ensures.items) (IsPermutation-refl _)) stands
