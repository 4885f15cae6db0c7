-- A replay state that keeps nothing below its floor.
use Rattle.std.specs.Prelude.{◌≤◌, List}
use Rattle.std.specs.List.{All}
use Rattle.munge_types.specs.StandsFor.{Remembered, Stands}
use Rattle.munge_types.specs.declared.history.Event.{Event}

-- it stands for some history, and each kept pair expires at the floor or later
pub record AllLive (state : Remembered) : Type 0 where
  pub history : List Event
  pub stands : Stands state history
  pub live : All (λ pair. state.floor ≤ pair.expiry) state.pairs
