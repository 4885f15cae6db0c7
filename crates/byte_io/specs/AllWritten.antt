-- The outcome of a write of a whole text.
use Rattle.std.specs.Prelude.{ℕ, ◌<◌, List, take}
use Rattle.byte_io.specs.declared.all_written.AllWritten.{AllWritten}
use Rattle.byte_io.specs.declared.all_written.AllWritten.TheVariants.{All, Failed}

-- the bytes that went out: all of them, or the first ones
abbrev pub bytes_written : AllWritten → List ℕ → List ℕ
bytes_written All from = from
bytes_written (Failed n) from = take n from

-- an outcome that is not `All` has written less than was asked
abbrev pub IsBelow : AllWritten → ℕ → Type 0
IsBelow All asked = Unit {0}
IsBelow (Failed n) asked = n < asked

-- what holds for each outcome
abbrev pub MatchAllWritten : AllWritten → Type 0 → Type 0 → Type 0
MatchAllWritten All all failed = all
MatchAllWritten (Failed _) all failed = failed
