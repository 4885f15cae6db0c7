-- The connection of a job of a load.
use Rattle.std.specs.Prelude.{ℕ, List}

-- what it is to its callers: the bytes left, how many reads found the end, and how often the
-- service was asked to stop
pub record LinkState : Type 0 where
  pub left : List ℕ
  pub ends : ℕ
  pub rings : ℕ
