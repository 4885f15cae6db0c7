-- Lemmas on counts that rose, for the callers of the outside.
use Rattle.std.proofs.Common.{ℕ, ◌≤◌, arith}
use Rattle.byte_io.specs.Counts.{Rose}

-- what rose has risen later as well
pub Rose-≤ : (before now later : ℕ) → Rose before now → now ≤ later → Rose before later
Rose-≤ before now later rose stays = omega arith

-- what rose has risen since earlier as well
pub ≤-Rose : (earlier before now : ℕ) → earlier ≤ before → Rose before now → Rose earlier now
≤-Rose earlier before now stays rose = omega arith
