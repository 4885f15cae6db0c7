-- What a purge on a gate does.
use Rattle.std.specs.Prelude.{◌≡◌, ℕ, ◌+◌, min, max, List, [], ◌∷◌, ◌++◌, filter, length}
use Rattle.std.specs.List.Sorted.{IsPermutation}
use Rattle.munge_types.specs.Live.{is_live, live}
use Rattle.munge_types.specs.Purge.{purged, expiries_below}
use Rattle.munge_types.specs.StandsFor.{Remembered, Stands}
use Rattle.munge_types.specs.declared.history.Event.{Event}
use Rattle.munge_types.specs.declared.history.Event.TheVariants.{Purge}
use Rattle.munge_types.specs.declared.replay.Purged.{Purged}
use Rattle.replay_gate.specs.Enters.{Enters}
use Rattle.replay_gate.specs.PassState.{PassState}

-- the slice that bounds nothing: `u32::MAX`
abbrev pub whole_slice : ℕ
whole_slice = 4294967295

-- a state that remembered the old stood for the history before, and one that remembers the new
-- stands for it with the entry; what remains is what the purge of a replay structure leaves
pub record Drops (before : List Event) (number moment slice : ℕ) (did : Purged) : Type 0 where
  pub old : Remembered
  pub new : Remembered
  pub stood_for : Stands old before
  pub stands_for : Stands new (before ++ Purge number moment ∷ [])
  pub floor : new.floor ≡ max moment old.floor
  pub kept : IsPermutation (purged new.floor slice old.pairs) new.pairs
  pub dropped : did.dropped + length new.pairs ≡ length old.pairs
  pub left : let below = expiries_below new.floor old.pairs in did.left + min below slice ≡ below
  pub whole : slice ≡ whole_slice → did.left ≡ 0
  pub only_live : did.left ≡ 0 → IsPermutation (filter (is_live new.floor) old.pairs) new.pairs
  pub live_count : did.left ≡ 0 → length new.pairs ≡ live (before ++ Purge number moment ∷ [])

-- the purge was made
pub record Purges (old new : PassState) (moment slice : ℕ) (did : Purged) : Type 0 where
  pub before : List Event
  pub enters : Enters old new before (Purge old.number moment)
  pub drops : Drops before old.number moment slice did
