-- What a purge drops: whole expiries below the floor, the least first, and not more of them than
-- its slice.
use Rattle.std.specs.Prelude.{ℕ, Bool, ◌&&◌, not, nat_eq, nat_lt, if◌then◌else◌, List, [], ◌∷◌, filter}
use Rattle.std.specs.List.{list_any, count_by}
use Rattle.munge_types.specs.declared.pair.Pair.{Pair}

-- the expiries of the pairs, each once
abbrev pub expiries : List Pair → List ℕ
expiries [] = []
expiries (pair ∷ pairs) =
    if list_any (nat_eq pair.expiry) (expiries pairs) then expiries pairs
    else pair.expiry ∷ expiries pairs

-- how many distinct expiries of the pairs are below a bound
abbrev pub expiries_below : (bound : ℕ) → List Pair → ℕ
expiries_below bound pairs = count_by (λ expiry. nat_lt expiry bound) (expiries pairs)

-- A purge of these kept pairs drops the pair: it expires below the floor, and fewer distinct
-- expiries than the slice are below its own.
abbrev pub is_dropped : (floor slice : ℕ) → (kept : List Pair) → Pair → Bool
is_dropped floor slice kept pair =
    nat_lt pair.expiry floor && nat_lt (expiries_below pair.expiry kept) slice

-- the pairs that a purge does not drop
abbrev pub purged : (floor slice : ℕ) → (kept : List Pair) → List Pair
purged floor slice kept = filter (λ pair. not (is_dropped floor slice kept pair)) kept
