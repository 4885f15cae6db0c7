-- How many distinct expiries lie between two moments.
use Rattle.std.specs.Prelude.{◌≡◌, ℕ, ◌+◌, List}
use Rattle.munge_types.specs.Purge.{expiries_below}
use Rattle.munge_types.specs.declared.pair.Pair.{Pair}

-- so many distinct expiries of the pairs are at least the one moment and below the other
abbrev pub HasExpiries : (from to count : ℕ) → List Pair → Type 0
HasExpiries from to count pairs = expiries_below to pairs ≡ expiries_below from pairs + count
