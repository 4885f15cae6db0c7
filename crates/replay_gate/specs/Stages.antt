-- What has to hold of a pass at its stage.
use Rattle.std.specs.Prelude.{◌≡◌, ℕ, ◌<◌, ◌≤◌, List}
use Rattle.munge_types.specs.declared.history.Event.{Event}
use Rattle.replay_gate.specs.declared.view.View.{View}
use Rattle.replay_gate.specs.declared.view.Part.{Part}
use Rattle.replay_gate.specs.declared.view.Stage.{Stage}
use Rattle.replay_gate.specs.declared.view.Stage.TheVariants.{Resting, Asking, Waiting, Serving, Meeting}
use Rattle.replay_gate.specs.GoesOn.{GoesOn}
use Rattle.replay_gate.specs.Makers.{AreApart}

-- a pass at this stage has this ticket
abbrev pub HasTicket : Stage → ℕ → Type 0
HasTicket Resting ticket = ⊥
HasTicket Asking ticket = ⊥
HasTicket (Waiting mine) ticket = mine ≡ ticket
HasTicket (Serving mine) ticket = mine ≡ ticket
HasTicket (Meeting first second) ticket = ⊥

-- 1 for a pass that is about to draw a ticket
abbrev pub asking : Stage → ℕ
asking Resting = 0
asking Asking = 1
asking (Waiting mine) = 0
asking (Serving mine) = 0
asking (Meeting first second) = 0

-- its ticket was drawn, and has not been served
pub record FitsWaiting (ticket turn : ℕ) (v : View) (mine : ℕ) : Type 0 where
  pub alive : 0 < v.share
  pub not_served : turn ≤ mine
  pub drawn : mine < ticket

-- its ticket has the turn, and it has seen the whole history
pub record FitsServing (ticket turn : ℕ) (history : List Event) (v : View) (mine : ℕ) : Type 0 where
  pub alive : 0 < v.share
  pub has_turn : mine ≡ turn
  pub drawn : mine < ticket
  pub whole : v.seen ≡ history

-- what it has seen goes on from what both had seen, and they had no number in common
pub record FitsMeeting (v : View) (first second : Part) : Type 0 where
  pub alive : 0 < v.share
  pub first_goes_on : GoesOn first.numbers first.seen v.seen
  pub second_goes_on : GoesOn second.numbers second.seen v.seen
  pub apart : AreApart first.numbers second.numbers

-- where the ticket word, the serving word and the history are these
abbrev pub StageFits : (ticket turn : ℕ) → List Event → View → Stage → Type 0
StageFits ticket turn history v Resting = Unit {0}
StageFits ticket turn history v Asking = 0 < v.share
StageFits ticket turn history v (Waiting mine) = FitsWaiting ticket turn v mine
StageFits ticket turn history v (Serving mine) = FitsServing ticket turn history v mine
StageFits ticket turn history v (Meeting first second) = FitsMeeting v first second
