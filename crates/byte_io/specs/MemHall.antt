-- A hall in memory.
use Rattle.std.specs.Prelude.{◌≡◌, ℕ, List, map}
use Rattle.std.specs.String.{string_bytes}
use Rattle.byte_io.specs.MemDoor.{DoorState}
use Rattle.byte_io.specs.MemWire.{WireState}
use Rattle.byte_io.specs.declared.memory.hall.NamedDoor.{NamedDoor}

-- a door that has had no fault
abbrev pub HasNoDoorFault : NamedDoor → Type 0
HasNoDoorFault named = named.door.faults ≡ 0

-- the paths and the doors
abbrev pub doors_of : List NamedDoor → List (List ℕ × DoorState)
doors_of doors = map (λ named. (string_bytes named.path, named.door)) doors

-- what a hall in memory is to its callers: the doors still to be opened, with their paths; its
-- wire; the numbers of the calls of `open_door` that fail, counted from 1; the calls made, and those
-- that failed
pub record HallState : Type 0 where
  pub doors : List (List ℕ × DoorState)
  pub wire : WireState
  pub fails : List ℕ
  pub calls : ℕ
  pub faults : ℕ
