-- The first walk parts what is dropped from what is kept, the second counts what is left below the floor.
use Rattle.std.proofs.Common.{◌≡◌, ℕ, ◌+◌, ◌<◌, ◌≤◌, min, List, arith, rules, inl, inr}
use Rattle.std.proofs.lemmas.Bool.{cases_lt}
use Rattle.std.proofs.lemmas.Fn.{filter_same}
use Rattle.std.proofs.lemmas.List.Sorted.{IsPermutation-refl}
use Rattle.std.specs.List.{filter}
use Rattle.munge_types.proofs.ExpiryLemmas.{expiries_below-zero}
use Rattle.munge_types.proofs.LiveLemmas.{live_after_purge}
use Rattle.munge_types.proofs.PurgeLemmas.{IsCut, purged-cut, stands_after_purge, live_where_none_left, none_left}
use Rattle.munge_types.specs.Live.{is_live}
use Rattle.munge_types.specs.Purge.{expiries_below}
use Rattle.munge_types.specs.declared.pair.Pair.{Pair}
use Rattle.replay_table.proofs.plain_replay.PlainReplayReplay.purge.Goals as goal
use Rattle.replay_table.specs.Expiries.{HasExpiries}

-- where the first walk stopped
cut_at : (floor slice until count : ℕ) (kept : List Pair) → until ≤ floor
    → HasExpiries 0 until count kept → count ≤ slice
    → (count < slice → HasExpiries until floor 0 kept) → IsCut floor slice until count kept
cut_at floor slice until count kept within counted most all =
    let so_many : expiries_below until kept ≡ count = omega (arith, counted, expiries_below-zero kept) in
    record { within = within; counted = so_many; most = most; all = λ less. omega (arith, all less, so_many) }

-- what the second walk counted
left_over : (floor slice until count end left : ℕ) (kept : List Pair) → IsCut floor slice until count kept
    → HasExpiries until end left kept → HasExpiries end floor 0 kept
    → left + min (expiries_below floor kept) slice ≡ expiries_below floor kept
left_over floor slice until count end left kept cut counted all =
    elim (cases_lt count slice) [
      | inl less ↦ let none : expiries_below floor kept ≡ count = cut.all less in omega (arith, cut.counted)
      | inr full ↦ omega (arith, cut.counted, cut.most)
    ]

pub returns-clause-kept : goal.returns-clause-kept
returns-clause-kept c =
    let until = c.pass_expiries-dropped.result.until in
    let kept = c.args.self.now.pairs.items in
    let walk = c.pass_expiries-dropped.ensures in
    let cut = cut_at c.max-floor.result c.args.slice until c.pass_expiries-dropped.result.count kept
    (omega (arith, walk.bound, c.from.ensures)) (rw c.deref.ensures.value at walk.counted) (omega (arith, walk.most, c.from-2.ensures))
    (λ less. rw (c.deref.ensures.value, c.from.ensures) at (walk.all (omega (arith, less, c.from-2.ensures)))) in
    let left : c.retain.new.self.items ≡ filter (is_live until) kept =
    filter_same _ (is_live until) _ (λ pair says other called. search rules) _ _ c.retain.ensures.filtered in
    rw (left, purged-cut c.max-floor.result c.args.slice until c.pass_expiries-dropped.result.count kept cut) (IsPermutation-refl _)

pub returns-clause-left : goal.returns-clause-left
returns-clause-left c =
    let kept = c.args.self.now.pairs.items in
    let walk = c.pass_expiries-dropped.ensures in
    let rest = c.pass_expiries-left.ensures in
    let cut = cut_at c.max-floor.result c.args.slice c.pass_expiries-dropped.result.until c.pass_expiries-dropped.result.count kept
    (omega (arith, walk.bound, c.from.ensures)) (rw c.deref.ensures.value at walk.counted) (omega (arith, walk.most, c.from-2.ensures))
    (λ less. rw (c.deref.ensures.value, c.from.ensures) at (walk.all (omega (arith, less, c.from-2.ensures)))) in
    left_over c.max-floor.result c.args.slice c.pass_expiries-dropped.result.until c.pass_expiries-dropped.result.count
    c.pass_expiries-left.result.until c.pass_expiries-left.result.count kept cut
    (rw c.deref-2.ensures.value at rest.counted)
    (rw (c.deref-2.ensures.value, c.from-3.ensures) at (rest.all (omega (arith, rest.few, c.from-3.ensures))))

pub returns-clause-whole : goal.returns-clause-whole
returns-clause-whole c = λ all.
    none_left c.max-floor.result c.args.slice c.pass_expiries-left.result.count c.args.self.now.pairs.items (returns-clause-left c) (omega (arith, all))

pub returns-clause-only_live : goal.returns-clause-only_live
returns-clause-only_live c = λ none.
    live_where_none_left c.max-floor.result c.args.slice c.pass_expiries-left.result.count c.args.self.now.pairs.items _ (returns-clause-left c) none
    (returns-clause-kept c)

pub returns-clause-stands : goal.returns-clause-stands
returns-clause-stands c = λ history pass stands.
    let kept = rw c.max-floor.ensures at (returns-clause-kept c) in
    rw c.max-floor.ensures (stands_after_purge c.args.slice c.args.self.now.floor _ _ history pass c.args.moment kept stands)

pub returns-clause-live : goal.returns-clause-live
returns-clause-live c = λ none history pass stands.
    let kept = rw c.max-floor.ensures at (returns-clause-only_live c none) in
    live_after_purge c.args.self.now.floor _ _ history pass c.args.moment kept stands
