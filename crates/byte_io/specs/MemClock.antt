-- A clock in memory.
use Rattle.std.specs.Prelude.{ℕ, List}
use Rattle.byte_io.specs.Counts.{raised}

-- what a clock in memory is to its callers: the readings left; the numbers of the calls that fail,
-- counted from 1; the calls made; the last reading given, or 0; the readings given, and the calls
-- that failed
pub record ClockState : Type 0 where
  pub readings : List ℕ
  pub fails : List ℕ
  pub calls : ℕ
  pub last : ℕ
  pub given : ℕ
  pub faults : ℕ

-- the clock after it gave a reading and has these left
abbrev pub after_reading : ClockState → ℕ → List ℕ → ClockState
after_reading s moment readings = record s {
  readings = readings;
  calls = raised s.calls;
  last = moment;
  given = raised s.given;
}

-- the clock after a call that failed
abbrev pub after_failed_call : ClockState → ClockState
after_failed_call s = record s { calls = raised s.calls; faults = raised s.faults }
