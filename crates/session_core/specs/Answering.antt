-- What a session answers, and what it does of its own.
use Rattle.std.specs.Prelude.{◌≡◌, ℕ, ◌+◌, Bool, true, false, nat_le, if◌then◌else◌, List, [], ◌∷◌, ◌++◌, length}
use Rattle.munge_types.specs.History.{floor}
use Rattle.munge_types.specs.Status.{status_number}
use Rattle.munge_types.specs.declared.history.Event.{Event}
use Rattle.munge_types.specs.declared.history.Event.TheVariants.{Admit, Purge}
use Rattle.munge_types.specs.declared.identity.Identity.{Identity}
use Rattle.munge_types.specs.declared.settings.Settings.{Settings}
use Rattle.munge_types.specs.declared.status.Status.{Status}
use Rattle.munge_types.specs.declared.status.Status.TheVariants.{Success, Unauthorized}
use Rattle.cred_open.specs.Credential.{pair_of}
use Rattle.decode_rules.specs.DecodeReply.{answer_to}
use Rattle.decode_rules.specs.Finding.{Finding, Refused, Ready, Finds}
use Rattle.wire_msg.specs.Spelling.{frame_of}
use Rattle.wire_msg.specs.declared.message.EncodeAsk.{EncodeAsk}
use Rattle.wire_msg.specs.declared.message.Message.{Message}
use Rattle.wire_msg.specs.declared.message.Message.TheVariants.{EncodeRequest, EncodeReply, DecodeRequest, DecodeReply, Stop, Bye}
use Rattle.session_core.specs.AskedBy.{asked_by}
use Rattle.session_core.specs.EncodeReply.{Encodes}
use Rattle.session_core.specs.Session.{Session}

-- what a session has done of its own: its events, and the place of the next word of its seed
pub record Own : Type 0 where
  pub events : List Event
  pub place : ℕ

-- nothing yet
abbrev pub nothing_done : Own
nothing_done = record { events = []; place = 0 }

-- how far the moment of a decode request has to be above the floor, in seconds, for a purge to come
-- first
abbrev pub purge_interval : ℕ
purge_interval = 60

-- the session's own events at the moment of a decode request, before it is answered
abbrev pub before_decode : (base own : List Event) → (moment : ℕ) → List Event
before_decode base own moment =
    if nat_le (floor (base ++ own) + purge_interval) moment then own ++ Purge 0 moment ∷ [] else own

-- the events before a request is answered: sealing and stopping ask nothing of the history
abbrev pub before_answer : (base own : List Event) → (moment : ℕ) → Message → List Event
before_answer base own moment (DecodeRequest text) = before_decode base own moment
before_answer base own moment (EncodeRequest ask) = own
before_answer base own moment Stop = own
before_answer base own moment (EncodeReply said) = own
before_answer base own moment (DecodeReply said) = own
before_answer base own moment (Bye status) = own

-- the events, and the look-up that a decode request makes where none of the rules 1 to 12 is broken
abbrev pub after_decode : Settings → (moment : ℕ) → List Event → Finding → List Event
after_decode settings moment own (Refused rule status credential) = own
after_decode settings moment own (Ready credential) =
    own ++ Admit 0 (pair_of settings.max_ttl credential) moment ∷ []

-- what came of requests: the readings that were taken of the clock for them, what was replied, and
-- what the session had done of its own then
pub record Outcome : Type 0 where
  pub readings : List ℕ
  pub replies : List ℕ
  pub own : Own

-- A decode request with this text, at this moment, after the session's own events, has this reply
-- and leaves these events of the session's own. The place of its entry counts the session's own
-- events.
pub record Decodes (session : Session) (own : List Event) (moment : ℕ) (text reply : List ℕ)
    (next : List Event) : Type 0 where
  pub finding : Finding
  pub finds : Finds session.terms moment text finding
  pub reply_is : let before = before_decode session.base own moment in
      let history = session.base ++ before in
      reply ≡ (answer_to session.terms.settings history moment (length before) finding).bytes
  pub next_is : let before = before_decode session.base own moment in
      next ≡ after_decode session.terms.settings moment before finding

-- an encode request is answered, with one reading of the clock
pub record AnswersAsk (session : Session) (own : Own) (ask : EncodeAsk) (outcome : Outcome)
    : Type 0 where
  pub moment : ℕ
  pub readings_are : outcome.readings ≡ moment ∷ []
  pub encodes : Encodes session.terms session.seed own.place moment (asked_by ask)
      outcome.replies outcome.own.place
  pub same_events : outcome.own.events ≡ own.events

-- a decode request is answered, with one reading of the clock
pub record AnswersText (session : Session) (own : Own) (text : List ℕ) (outcome : Outcome)
    : Type 0 where
  pub moment : ℕ
  pub readings_are : outcome.readings ≡ moment ∷ []
  pub decodes : Decodes session own.events moment text outcome.replies outcome.own.events
  pub same_place : outcome.own.place ≡ own.place

-- the status of the answer to Stop: the caller has to have control
abbrev pub stop_status : Identity → Status
stop_status who = if who.control then Success else Unauthorized

-- Stop is answered, without a reading of the clock
pub record AnswersStop (session : Session) (own : Own) (outcome : Outcome) : Type 0 where
  pub readings_none : outcome.readings ≡ []
  pub reply_is : outcome.replies ≡ frame_of (Bye (status_number (stop_status session.terms.who)))
  pub same : outcome.own ≡ own

-- a request of a session that has done this of its own is answered, and this comes of it
abbrev pub Answers : Session → Own → Message → Outcome → Type 0
Answers session own (EncodeRequest ask) outcome = AnswersAsk session own ask outcome
Answers session own (DecodeRequest text) outcome = AnswersText session own text outcome
Answers session own Stop outcome = AnswersStop session own outcome
Answers session own (EncodeReply said) outcome = ⊥
Answers session own (DecodeReply said) outcome = ⊥
Answers session own (Bye status) outcome = ⊥

-- a request is answered with a reading of the clock: all but Stop
abbrev pub takes_reading : Message → Bool
takes_reading (EncodeRequest ask) = true
takes_reading (DecodeRequest text) = true
takes_reading Stop = false
takes_reading (EncodeReply said) = false
takes_reading (DecodeReply said) = false
takes_reading (Bye status) = false

-- the session is over after this request: Stop, of a caller who has control
abbrev pub is_last : Identity → Message → Bool
is_last who Stop = who.control
is_last who (EncodeRequest ask) = false
is_last who (DecodeRequest text) = false
is_last who (EncodeReply said) = false
is_last who (DecodeReply said) = false
is_last who (Bye status) = false

-- nothing came, as no request did
abbrev pub nothing_came : Own → Outcome
nothing_came own = record { readings = []; replies = []; own = own }

-- what comes of requests, and then of more
abbrev pub joined : Outcome → Outcome → Outcome
joined first later =
    record {
      readings = first.readings ++ later.readings;
      replies = first.replies ++ later.replies;
      own = later.own;
    }

-- the first of several requests is answered, and of the later ones this holds
pub record First (session : Session) (own : Own) (request : Message) (outcome : Outcome)
    (Later : Own → Outcome → Type 0) : Type 0 where
  pub first : Outcome
  pub answers : Answers session own request first
  pub others : Outcome
  pub later : Later first.own others
  pub outcome_is : outcome ≡ joined first others

-- requests of a session that has done this of its own are answered, one after another, and this
-- comes of them
abbrev pub Run : Session → Own → List Message → Outcome → Type 0
Run session own [] outcome = outcome ≡ nothing_came own
Run session own (request ∷ requests) outcome =
    First session own request outcome (λ next others. Run session next requests others)
