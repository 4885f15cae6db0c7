-- A door in memory.
use Rattle.std.specs.Prelude.{◌≡◌, ℕ, List}
use Rattle.byte_io.specs.MemLink.{LinkState}

-- a connection that has had no fault
abbrev pub HasNoFault : LinkState → Type 0
HasNoFault link = (link.source.faults ≡ 0) × (link.sink.faults ≡ 0)

-- what a door in memory is to its callers: the connections to come; the numbers of the calls that
-- fail, counted from 1; the calls made, and those that failed
pub record DoorState : Type 0 where
  pub coming : List LinkState
  pub fails : List ℕ
  pub calls : ℕ
  pub faults : ℕ
