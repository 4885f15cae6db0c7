-- How one history goes on from another.
use Rattle.std.specs.Prelude.{◌≡◌, false, nat_lt, if◌then◌else◌, ℕ, List, ◌++◌, length}
use Rattle.munge_types.specs.declared.history.Event.{Event}
use Rattle.replay_gate.specs.Makers.{any_by}

-- the longer history has everything that was seen, and then entries of other passes alone
pub record GoesOn (numbers : List ℕ) (seen longer : List Event) : Type 0 where
  pub others : List Event
  pub longer_is : longer ≡ seen ++ others
  pub of_others : any_by numbers others ≡ false

-- the longer of two histories, and the first where they are equally long
abbrev pub longer_of : List Event → List Event → List Event
longer_of first second = if nat_lt (length first) (length second) then second else first
