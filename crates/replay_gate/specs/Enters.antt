-- A call that made its entry.
use Rattle.std.specs.Prelude.{◌≡◌, ◌≤◌, ◌<◌, List, [], ◌∷◌, ◌++◌}
use Rattle.munge_types.specs.declared.history.Event.{Event}
use Rattle.replay_gate.specs.GoesOn.{GoesOn}
use Rattle.replay_gate.specs.PassState.{PassState}
use Rattle.replay_gate.specs.Worn.{worn_at}

-- the call made this entry, and before it others may have made theirs
pub record Enters (old new : PassState) (before : List Event) (entry : Event) : Type 0 where
  pub goes_on : GoesOn old.numbers old.seen before
  pub not_below : old.highest ≤ new.highest
  pub not_worn : new.highest < worn_at
  pub after_is : new ≡ record old { highest = new.highest; seen = before ++ entry ∷ [] }
