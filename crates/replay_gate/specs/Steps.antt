-- What each step of a call makes of its pass, and what it tells.
use Rattle.std.specs.Prelude.{◌≡◌, ◌≢◌, ℕ, ◌+◌, ◌<◌, ◌≤◌, List, [], ◌∷◌, length}
use Rattle.atomic_table.specs.Table.{Me}
use Rattle.munge_types.specs.StandsFor.{Remembered, Stands}
use Rattle.munge_types.specs.declared.history.Event.{Event}
use Rattle.replay_gate.specs.declared.view.View.{View}
use Rattle.replay_gate.specs.declared.view.Part.{Part}
use Rattle.replay_gate.specs.declared.view.Stage.TheVariants.{Resting, Waiting, Meeting}
use Rattle.replay_gate.specs.GoesOn.{GoesOn}
use Rattle.replay_gate.specs.Makers.{AreApart}
use Rattle.replay_gate.specs.PassState.{pass_limit}
use Rattle.replay_gate.specs.Views.{heard, at_stage, serving, entered}
use Rattle.replay_gate.specs.Worn.{worn_at}

module _ {S : Type 0} where
  -- the ticket word was read
  pub record Asked (before : Me S View) (found : ℕ) (after : Me S View) : Type 0 where
    pub not_below : before.0.highest ≤ found
    pub after_is : after ≡ (heard found before.0, [])

  -- a ticket was drawn
  pub record Drew (before : Me S View) (found : ℕ) (after : Me S View) : Type 0 where
    pub fits : found < worn_at + pass_limit
    pub after_is : after ≡ (at_stage (Waiting found) before.0, [])

  -- the turn was given up
  abbrev pub Left : Event → Me S View → Me S View → Type 0
  Left entry before after = after ≡ (entered entry before.0, [])

  -- what two passes had seen was compared, after they were joined
  pub record Compared (first second : Part) (before after : Me S View) : Type 0 where
    pub after_is : after ≡ (at_stage Resting before.0, [])
    pub first_goes_on : GoesOn first.numbers first.seen before.0.seen
    pub second_goes_on : GoesOn second.numbers second.seen before.0.seen
    pub apart : AreApart first.numbers second.numbers
    pub few : before.0.share < pass_limit

  -- the same, of the two that the pass has been made of
  abbrev pub Met : Me S View → Me S View → Type 0
  Met before after = (first second : Part) → before.0.stage ≡ Meeting first second
      → Compared first second before after

module _ {S : Type 0} (remembered : S → Remembered) where
  -- the pass has the turn: it has seen the whole history, and holds the state, which stands for it
  pub record Serves (ticket : ℕ) (before after : Me S View) : Type 0 where
    pub history : List Event
    pub state : S
    pub after_is : after ≡ (serving ticket history before.0, (0, state) ∷ [])
    pub stands_for : Stands (remembered state) history
    pub goes_on : GoesOn before.0.numbers before.0.seen history
    pub place : ticket ≡ before.0.start + length history

  -- the serving word was read
  pub record Looked (before : Me S View) (found : ℕ) (after : Me S View) : Type 0 where
    pub turn : before.0.stage ≡ Waiting found → Serves found before after
    pub no_turn : before.0.stage ≢ Waiting found → after ≡ before
