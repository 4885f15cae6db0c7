-- A ticker in memory.
use Rattle.std.specs.Prelude.{ℕ, List}

-- what a ticker in memory is to its callers: the number of Due answers to come; the numbers of the
-- calls that fail, counted from 1; the calls made, and those that failed
pub record TickerState : Type 0 where
  pub due : ℕ
  pub fails : List ℕ
  pub calls : ℕ
  pub faults : ℕ
