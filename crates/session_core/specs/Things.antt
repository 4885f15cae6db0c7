-- What contracts see of the things that a session works on.
use Rattle.std.specs.Prelude.{ℕ, ◌≤◌, List, Option}
use Rattle.std.specs.Io.KnownBytes.{Consumes, Appends, IsAtEnd}
use Rattle.byte_io.specs.Counts.{Rose}
use Rattle.munge_types.specs.StandsFor.{Remembered, Stands}
use Rattle.munge_types.specs.declared.history.Event.{Event}

-- of a source: the bytes left, where they are told, and how many reads found the end
pub record Input : Type 0 where
  pub left : Option (List ℕ)
  pub ends : ℕ

-- a source; the bytes that a sink took, and the readings that a clock will give, where they are
-- told
pub record Outside : Type 0 where
  pub input : Input
  pub taken : Option (List ℕ)
  pub readings : Option (List ℕ)

-- these, and what a replay state remembers
pub record Things : Type 0 where
  pub outside : Outside
  pub replay : Remembered

abbrev pub input_of : (left : Option (List ℕ)) → (ends : ℕ) → Input
input_of left ends = record { left = left; ends = ends }

abbrev pub outside_of : Input → (taken readings : Option (List ℕ)) → Outside
outside_of input taken readings = record { input = input; taken = taken; readings = readings }

abbrev pub things_of : Outside → Remembered → Things
things_of outside replay = record { outside = outside; replay = replay }

-- the source came to its end: a read found it, and nothing is left where that is told
pub record CameToEnd (before after : Input) : Type 0 where
  pub found : Rose before.ends after.ends
  pub nothing_left : IsAtEnd after.left

-- From before to after these bytes were read, these were written, these readings were taken, and
-- the state stands for this history afterwards.
pub record Moves (before after : Things) (read written readings : List ℕ)
    (history : List Event) : Type 0 where
  pub reads : Consumes before.outside.input.left after.outside.input.left read
  pub ends_stay : before.outside.input.ends ≤ after.outside.input.ends
  pub writes : Appends before.outside.taken after.outside.taken written
  pub takes : Consumes before.outside.readings after.outside.readings readings
  pub stands : Stands after.replay history
