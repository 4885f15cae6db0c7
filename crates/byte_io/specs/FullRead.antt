-- The outcome of a read that is to fill a buffer.
use Rattle.std.specs.Prelude.{ℕ, ◌<◌, List, take}
use Rattle.byte_io.specs.declared.full_read.FullRead.{FullRead}
use Rattle.byte_io.specs.declared.full_read.FullRead.TheVariants.{Full, Short, Failed}

-- the bytes that were read: the whole buffer, or its front
abbrev pub bytes_read : FullRead → List ℕ → List ℕ
bytes_read Full buffer = buffer
bytes_read (Short n) buffer = take n buffer
bytes_read (Failed n) buffer = take n buffer

-- an outcome that is not `Full` has read less than was asked
abbrev pub IsBelow : FullRead → ℕ → Type 0
IsBelow Full asked = Unit {0}
IsBelow (Short n) asked = n < asked
IsBelow (Failed n) asked = n < asked

-- what holds for each outcome
abbrev pub MatchFullRead : FullRead → Type 0 → Type 0 → Type 0 → Type 0
MatchFullRead Full full short failed = full
MatchFullRead (Short _) full short failed = short
MatchFullRead (Failed _) full short failed = failed
