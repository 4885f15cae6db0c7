-- What a replay state has to do with a history, said of the two things that contracts see of a
-- state: its floor and the pairs that it keeps.
use Rattle.std.specs.Prelude.{◌≡◌, ℕ, true, ◌≤◌, List}
use Rattle.std.specs.List.{list_any, IsDistinct}
use Rattle.munge_types.specs.Pair.{pair_eq}
use Rattle.munge_types.specs.History.{floor as floor_of, accepted}
use Rattle.munge_types.specs.declared.pair.Pair.{Pair}
use Rattle.munge_types.specs.declared.history.Event.{Event}

-- the pair is among these
abbrev pub IsAmong : List Pair → Pair → Type 0
IsAmong pairs pair = list_any (pair_eq pair) pairs ≡ true

-- a state with this floor and these kept pairs stands for the history
pub record StandsFor (floor : ℕ) (kept : List Pair) (history : List Event) : Type 0 where
  -- the floor is the history's
  pub same_floor : floor ≡ floor_of history
  -- what was accepted and has not fallen below the floor is kept
  pub keeps : (pair : Pair) → IsAmong (accepted history) pair → floor ≤ pair.expiry
      → IsAmong kept pair
  -- what is kept was accepted
  pub was_accepted : (pair : Pair) → IsAmong kept pair → IsAmong (accepted history) pair
  -- nothing is kept twice
  pub once : IsDistinct pair_eq kept

-- what contracts see of a replay structure: its floor, and the pairs that it keeps
pub record Remembered : Type 0 where
  pub floor : ℕ
  pub pairs : List Pair

-- a structure that remembers this stands for the history
abbrev pub Stands : Remembered → List Event → Type 0
Stands state history = StandsFor state.floor state.pairs history
