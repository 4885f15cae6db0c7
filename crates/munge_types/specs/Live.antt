-- The pairs that have not fallen below a floor.
use Rattle.std.specs.Prelude.{ℕ, Bool, nat_le, List}
use Rattle.std.specs.List.{count_by}
use Rattle.munge_types.specs.History.{floor as floor_of, accepted}
use Rattle.munge_types.specs.declared.pair.Pair.{Pair}
use Rattle.munge_types.specs.declared.history.Event.{Event}

-- the pair expires at the floor or later
abbrev pub is_live : ℕ → Pair → Bool
is_live floor pair = nat_le floor pair.expiry

-- how many of the pairs that a history accepted are live at its floor
abbrev pub live : List Event → ℕ
live history = count_by (is_live (floor_of history)) (accepted history)
