-- What serving a connection makes of a pass, and how it stands in a longer history.
use Rattle.std.specs.Prelude.{◌≡◌, ℕ, ◌≤◌, List, ◌∷◌, ◌++◌, length}
use Rattle.std.specs.declared.option.Option.{Option}
use Rattle.std.specs.declared.option.Option.TheVariants.{None, Some}
use Rattle.munge_types.specs.declared.history.Event.{Event}
use Rattle.cred_seal.specs.Dice.{DiceState, next_place}
use Rattle.replay_gate.specs.Enters.{Enters}
use Rattle.replay_gate.specs.Makers.{maker}
use Rattle.replay_gate.specs.PassState.{PassState}
use Rattle.replay_gate.specs.Worn.{IsWorn, worn_at}
use Rattle.session_core.specs.Connection.{Connection}
use Rattle.session_core.specs.Service.{Made, Service}
use Rattle.session_core.specs.Serving.{IsServed}
use Rattle.session_core.specs.declared.served.ServeEnd.{ServeEnd}
use Rattle.session_core.specs.declared.served.ServeEnd.TheVariants as how
use Rattle.session_core.specs.declared.served.Served.{Served}

-- a pass goes on by what it has seen and read; the rest of it stays
abbrev pub PassGoesOn : (old new : PassState) → Type 0
PassGoesOn old new = new ≡ record old { highest = new.highest; seen = new.seen }

-- what a call leaves of its pass that made no entry: the pass, but for a ticket word that was worn
abbrev pub LeavesPass : ServeEnd → (old new : PassState) → Type 0
LeavesPass (how.Worn ticket) old new = IsWorn old new ticket
LeavesPass how.Done old new = new ≡ old
LeavesPass how.Stopped old new = new ≡ old
LeavesPass how.Quiet old new = new ≡ old
LeavesPass how.ReadFault old new = new ≡ old
LeavesPass how.WriteFault old new = new ≡ old
LeavesPass how.ClockFault old new = new ≡ old
LeavesPass how.Malformed old new = new ≡ old
LeavesPass how.NoMemory old new = new ≡ old

-- the call made one entry, at this place
pub record MakesEntry (service : Service) (old new : PassState) (before after : Connection)
    (served : Served) (place : ℕ) : Type 0 where
  pub made : Made
  pub enters : Enters old new made.before made.entry
  pub place_is : place ≡ length made.before
  pub by : maker made.entry ≡ service.number
  pub is_served : IsServed service (Some made) before after served

-- it made none
pub record MakesNoEntry (service : Service) (old new : PassState) (before after : Connection)
    (served : Served) : Type 0 where
  pub leaves : LeavesPass served.how old new
  pub is_served : IsServed service None before after served

-- a connection was served by a pass: an entry was made exactly where a place is told
abbrev pub Serves : Service → (old new : PassState) → (before after : Connection) → Served
    → (place : Option ℕ) → Type 0
Serves service old new before after served (Some place) =
    MakesEntry service old new before after served place
Serves service old new before after served None =
    MakesNoEntry service old new before after served

-- the entry stands at this place of a history, behind what was before it
pub record StandsAt (service : Service) (history : List Event) (before after : Connection)
    (served : Served) (place : ℕ) : Type 0 where
  pub made : Made
  pub others : List Event
  pub history_is : history ≡ made.before ++ made.entry ∷ others
  pub place_is : place ≡ length made.before
  pub by : maker made.entry ≡ service.number
  pub is_served : IsServed service (Some made) before after served

-- a ticket word that was found worn is so, and within the bound
abbrev pub WornWithin : (bound : ℕ) → ServeEnd → Type 0
WornWithin bound (how.Worn ticket) = (worn_at ≤ ticket) × (ticket ≤ bound)
WornWithin bound how.Done = Unit {0}
WornWithin bound how.Stopped = Unit {0}
WornWithin bound how.Quiet = Unit {0}
WornWithin bound how.ReadFault = Unit {0}
WornWithin bound how.WriteFault = Unit {0}
WornWithin bound how.ClockFault = Unit {0}
WornWithin bound how.Malformed = Unit {0}
WornWithin bound how.NoMemory = Unit {0}

-- no entry was made
pub record StandsNowhere (service : Service) (bound : ℕ) (before after : Connection)
    (served : Served) : Type 0 where
  pub worn : WornWithin bound served.how
  pub is_served : IsServed service None before after served

-- A connection that was served, said of a history that goes on behind its entry, and of the
-- greatest ticket word that may have been read.
abbrev pub StandsIn : Service → (history : List Event) → (bound : ℕ) → (before after : Connection)
    → Served → (place : Option ℕ) → Type 0
StandsIn service history bound before after served (Some place) =
    StandsAt service history before after served place
StandsIn service history bound before after served None =
    StandsNowhere service bound before after served

-- the dice after a call: six words were drawn at the place that is told, or none
abbrev pub Draws : (old new : DiceState) → (drawn : Option ℕ) → Type 0
Draws old new None = new ≡ old
Draws old new (Some place) =
    (place ≡ old.place) × (new ≡ record old { place = next_place old.place })
