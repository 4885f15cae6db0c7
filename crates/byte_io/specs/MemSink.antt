-- A sink in memory.
use Rattle.std.specs.Prelude.{◌≡◌, ℕ, List, ◌++◌, length, Result, Contains, IsErr, IfOk, OnOk, OnErr}
use Rattle.byte_io.specs.Counts.{raised}

-- what a sink in memory is to its callers: the bytes taken; the numbers of the writes that fail,
-- counted from 1; the writes made, and those that failed
pub record SinkState : Type 0 where
  pub taken : List ℕ
  pub fails : List ℕ
  pub writes : ℕ
  pub faults : ℕ

-- the sink after it took bytes
abbrev pub after_write : SinkState → List ℕ → SinkState
after_write s bytes = record s { taken = s.taken ++ bytes; writes = raised s.writes }

-- the sink after a write that failed
abbrev pub after_failed_write : SinkState → SinkState
after_failed_write s = record s { writes = raised s.writes; faults = raised s.faults }

-- a write fails where its number says so, and where it does not fail takes all
abbrev pub WritesAll : {E : Type 0} → SinkState → SinkState → Result ℕ E → List ℕ → Type 0
WritesAll old new result from =
    (Contains old.fails (raised old.writes) → IsErr result)
    × OnErr result (new ≡ after_failed_write old)
    × OnOk result (new ≡ after_write old from)
    × IfOk result (λ n. n ≡ length from)
