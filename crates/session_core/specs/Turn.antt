-- What one turn of a session leaves behind.
use Rattle.std.specs.Prelude.{◌≡◌, ℕ, ◌+◌, ◌⊎◌, Bool, true, List, [], ◌∷◌, ◌++◌, length, Option}
use Rattle.std.specs.Io.KnownBytes.{Consumes, Keeps}
use Rattle.munge_types.specs.StandsFor.{Remembered, Stands}
use Rattle.munge_types.specs.declared.history.Event.{Event}
use Rattle.wire_msg.specs.Spelling.{frame_of}
use Rattle.wire_msg.specs.declared.message.Message.{Message}
use Rattle.session_core.specs.Answering.{Answers, Decodes, Outcome, Own, before_answer, before_decode, is_last, takes_reading}
use Rattle.session_core.specs.Requests.{IsRequest}
use Rattle.session_core.specs.Session.{Session}
use Rattle.session_core.specs.SessionRan.{Beyond, Leaves}
use Rattle.session_core.specs.Things.{CameToEnd, Moves, Things}
use Rattle.session_core.specs.declared.answer.Unanswered.{Unanswered}
use Rattle.session_core.specs.declared.answer.Unanswered.TheVariants.{ClockFault, NoMemory}
use Rattle.session_core.specs.declared.end.HowEnded.{HowEnded}

-- the state stands for the events before a decode request is answered, and there are so many more
-- of them
pub record IsPurged (state : Remembered) (base own : List Event) (moment more : ℕ) : Type 0 where
  pub stands : Stands state (base ++ before_decode base own moment)
  pub count : length (before_decode base own moment) ≡ length own + more

-- the reply is that to the text, the state stands for the events with those of the answer, and so
-- many of them are the session's own
pub record IsDecoded (session : Session) (own : List Event) (moment : ℕ) (text reply : List ℕ)
    (entries : ℕ) (state : Remembered) : Type 0 where
  pub next : List Event
  pub decodes : Decodes session own moment text reply next
  pub stands : Stands state (session.base ++ next)
  pub count : length next ≡ entries

-- How far a session has come: how many events it has made, and the place of the next word of its
-- seed.
pub record Stage : Type 0 where
  pub entries : ℕ
  pub place : ℕ

abbrev pub stage_of : (entries place : ℕ) → Stage
stage_of entries place = record { entries = entries; place = place }

-- what the session did of its own has come so far
pub record IsAt (own : Own) (stage : Stage) : Type 0 where
  pub entries_are : length own.events ≡ stage.entries
  pub place_is : own.place ≡ stage.place

-- the reply is that to the request, with the readings that the clock lost; the state stands for the
-- events with those of the answer, and the session has come so far
pub record IsAnswered (session : Session) (own : Own) (request : Message) (reply : List ℕ)
    (readings readings' : Option (List ℕ)) (state : Remembered) (stage : Stage) : Type 0 where
  pub outcome : Outcome
  pub answers : Answers session own request outcome
  pub reply_is : outcome.replies ≡ reply
  pub takes : Consumes readings readings' outcome.readings
  pub stands : Stands state (session.base ++ outcome.own.events)
  pub is_at : IsAt outcome.own stage

-- nothing was done of the request
pub record IsLeft (session : Session) (own : List Event) (readings readings' : Option (List ℕ))
    (state : Remembered) : Type 0 where
  pub kept : Keeps readings readings'
  pub stands : Stands state (session.base ++ own)

-- a reading was taken, and no more was done of the request than the purge that comes before it
pub record IsBegun (session : Session) (own : List Event) (request : Message)
    (readings readings' : Option (List ℕ)) (state : Remembered) : Type 0 where
  pub timed : takes_reading request ≡ true
  pub moment : ℕ
  pub takes : Consumes readings readings' (moment ∷ [])
  pub stands : Stands state (session.base ++ before_answer session.base own moment request)

-- what was done of a request that was not answered, for each cause
abbrev pub LeavesUnanswered : Session → (own : List Event) → Message
    → (readings readings' : Option (List ℕ)) → Remembered → Unanswered → Type 0
LeavesUnanswered session own request readings readings' state ClockFault =
    (takes_reading request ≡ true) × IsLeft session own readings readings' state
LeavesUnanswered session own request readings readings' state NoMemory =
    IsLeft session own readings readings' state
    ⊎ IsBegun session own request readings readings' state

-- One more request was answered, in full: the next begins at this byte, and the session is over or
-- not.
pub record IsTurned (session : Session) (own : Own) (before after : Things) (begins begins' : ℕ)
    (over : Bool) (stage : Stage) : Type 0 where
  pub request : Message
  pub fits : IsRequest request
  pub outcome : Outcome
  pub answers : Answers session own request outcome
  pub moves : Moves before after (frame_of request) outcome.replies outcome.readings
      (session.base ++ outcome.own.events)
  pub begins_is : begins' ≡ begins + length (frame_of request)
  pub over_is : over ≡ is_last session.terms.who request
  pub is_at : IsAt outcome.own stage

-- No more request was answered in full, and the session ended so; not by its budget, which is no
-- turn's.
pub record HasEnded (session : Session) (own : Own) (before after : Things) (begins : ℕ)
    (how : HowEnded) : Type 0 where
  pub beyond : Beyond
  -- however many were answered before
  pub leaves : let ended = CameToEnd before.outside.input after.outside.input in
      (answered : ℕ) → Leaves session own answered begins ended how beyond
  pub moves : Moves before after beyond.read beyond.written beyond.readings
      (session.base ++ beyond.events)
