-- What is said of a seat in the private steps of a call.
use Rattle.std.specs.Prelude.{◌≡◌, ℕ, ◌+◌, ◌≤◌, ◌<◌, List, [], ◌∷◌, ◌++◌, length}
use Rattle.atomic_table.specs.Table.{Me}
use Rattle.munge_types.specs.History.{verdict}
use Rattle.munge_types.specs.StandsFor.{Remembered, Stands}
use Rattle.munge_types.specs.declared.history.Event.{Event}
use Rattle.munge_types.specs.declared.history.Event.TheVariants.{Admit, Purge, Idle}
use Rattle.munge_types.specs.declared.history.Verdict.{Verdict}
use Rattle.munge_types.specs.declared.history.Verdict.TheVariants.{Accepted}
use Rattle.munge_types.specs.declared.pair.Pair.{Pair}
use Rattle.munge_types.specs.declared.replay.Purged.{Purged}
use Rattle.replay_gate.specs.declared.view.View.{View}
use Rattle.replay_gate.specs.declared.view.Stage.TheVariants.{Resting}
use Rattle.replay_gate.specs.GoesOn.{GoesOn, longer_of}
use Rattle.replay_gate.specs.Makers.{AreApart}
use Rattle.replay_gate.specs.PassState.{pass_limit}
use Rattle.replay_gate.specs.Purges.{Drops}
use Rattle.replay_gate.specs.Views.{at_stage, with_ticket, with_turn, with_entry, merged}
use Rattle.replay_gate.specs.Worn.{worn_at}

module _ {S : Type 0} where
  -- a seat between two calls
  pub record Rests (me : Me S View) : Type 0 where
    pub holds_nothing : me.1 ≡ []
    pub rests : me.0.stage ≡ Resting
    pub alive : 0 < me.0.share

  -- a ticket was drawn
  pub record Waits (before after : Me S View) (ticket : ℕ) : Type 0 where
    pub found : ℕ
    pub not_below : before.0.highest ≤ found
    pub not_worn : found < worn_at
    pub fits : ticket < worn_at + pass_limit
    pub after_is : after ≡ (with_ticket found ticket before.0, [])

  -- none was
  pub record FindsWorn (before after : Me S View) (ticket : ℕ) : Type 0 where
    pub worn : worn_at ≤ ticket
    pub not_below : before.0.highest ≤ ticket
    pub after_is : after ≡ (record (before.0) { highest = ticket }, [])

  module _ (remembered : S → Remembered) where
    -- the seat holds the slot's state, which stands for the history
    pub record StandsAt (me : Me S View) (history : List Event) : Type 0 where
      pub state : S
      pub holds : me.1 ≡ (0, state) ∷ []
      pub stands_for : Stands (remembered state) history

    -- it stands for all that the seat has seen
    abbrev pub StandsForSeen : Me S View → Type 0
    StandsForSeen me = StandsAt me me.0.seen

    -- it stands for that with the entry at its end
    abbrev pub StandsWith : Me S View → Event → Type 0
    StandsWith me entry = StandsAt me (me.0.seen ++ entry ∷ [])

    -- the seat has the turn
    pub record HasTurn (before after : Me S View) (ticket : ℕ) : Type 0 where
      pub found : ℕ
      pub not_below : before.0.highest ≤ found
      pub not_worn : found < worn_at
      pub fits : ticket < worn_at + pass_limit
      pub history : List Event
      pub goes_on : GoesOn before.0.numbers before.0.seen history
      pub place : ticket ≡ before.0.start + length history
      pub view_is : after.0 ≡ with_turn found ticket history before.0
      pub stands_for : StandsForSeen after

  module _ (before after : Me S View) (ticket : ℕ) where
    -- the seat rests again, and its entry was added to this history
    pub record HasEntered (history : List Event) (entry : Event) : Type 0 where
      pub found : ℕ
      pub not_below : before.0.highest ≤ found
      pub not_worn : found < worn_at
      pub fits : ticket < worn_at + pass_limit
      pub goes_on : GoesOn before.0.numbers before.0.seen history
      pub place : ticket ≡ before.0.start + length history
      pub after_is : after ≡ (with_entry found history entry before.0, [])

    -- a look-up was made, and answered as the history does
    pub record HasAnswered (pair : Pair) (moment : ℕ) (said : Verdict) : Type 0 where
      pub history : List Event
      pub entered : HasEntered history (Admit before.0.number pair moment)
      pub verdict_is : said ≡ verdict history pair moment

    -- no memory was found for a pair that would have been accepted
    pub record HasIdled (pair : Pair) (moment : ℕ) : Type 0 where
      pub history : List Event
      pub entered : HasEntered history (Idle before.0.number)
      pub wanted : verdict history pair moment ≡ Accepted

    -- a purge was made
    pub record HasPurged (moment slice : ℕ) (did : Purged) : Type 0 where
      pub history : List Event
      pub entered : HasEntered history (Purge before.0.number moment)
      pub drops : Drops history before.0.number moment slice did

  -- a pass has taken another in
  pub record HasMet (v w : View) (after : Me S View) : Type 0 where
    pub after_is : after ≡ (at_stage Resting (merged v w), [])
    pub first_goes_on : GoesOn v.numbers v.seen (longer_of v.seen w.seen)
    pub second_goes_on : GoesOn w.numbers w.seen (longer_of v.seen w.seen)
    pub apart : AreApart v.numbers w.numbers
    pub few : v.share + w.share < pass_limit
