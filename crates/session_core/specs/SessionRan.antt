-- What a session leaves behind that came to its end.
use Rattle.std.specs.Prelude.{◌≡◌, ◌≢◌, ℕ, ◌≤◌, ◌⊎◌, true, false, List, [], ◌∷◌, ◌++◌, length}
use Rattle.std.specs.List.{AllByRecursion, list_any}
use Rattle.munge_types.specs.declared.history.Event.{Event}
use Rattle.wire_msg.specs.Frame.{IsFramePrefix}
use Rattle.wire_msg.specs.Spelling.{frame_of}
use Rattle.wire_msg.specs.declared.kind.Side.TheVariants.{Requests}
use Rattle.wire_msg.specs.declared.message.Message.{Message}
use Rattle.wire_msg.specs.declared.message.Message.TheVariants.{Stop}
use Rattle.session_core.specs.Answering.{Answers, Outcome, Own, Run, before_answer, is_last, nothing_done, takes_reading}
use Rattle.session_core.specs.Reading.{IsNoRequest, IsLessThanOne}
use Rattle.session_core.specs.Requests.{IsRequest, frames}
use Rattle.session_core.specs.Session.{Session}
use Rattle.session_core.specs.Things.{CameToEnd, Moves, Things}
use Rattle.session_core.specs.declared.end.HowEnded.{HowEnded}
use Rattle.session_core.specs.declared.end.HowEnded.TheVariants.{Done, ReadFault, WriteFault, ClockFault, Malformed, Budget, NoMemory}
use Rattle.session_core.specs.declared.end.SessionEnd.{SessionEnd}

-- the most requests that a session answers
abbrev pub request_limit : ℕ
request_limit = 1048576

-- a front of the whole, which is not all of it
pub record IsProperPrefix (front whole : List ℕ) : Type 0 where
  pub rest : List ℕ
  pub whole_is : whole ≡ front ++ rest
  pub some_rest : rest ≢ []

-- what a session had done of the next request when it ended: the bytes that it had read and written
-- beyond its answers, the readings that it had taken, and its own events with those of that request
pub record Beyond : Type 0 where
  pub read : List ℕ
  pub written : List ℕ
  pub readings : List ℕ
  pub events : List Event

-- nothing was written of the next reply, no reading was taken for it, and no event happened
pub record IsUntouched (own : List Event) (beyond : Beyond) : Type 0 where
  pub written_none : beyond.written ≡ []
  pub readings_none : beyond.readings ≡ []
  pub events_same : beyond.events ≡ own

-- a whole request was read that is answered with a reading of the clock
pub record IsTimedRequest (read : List ℕ) (request : Message) : Type 0 where
  pub fits : IsRequest request
  pub read_is : read ≡ frame_of request
  pub timed : takes_reading request ≡ true

-- such a request was read, and nothing more was done of it
pub record IsUnclocked (own : List Event) (beyond : Beyond) : Type 0 where
  pub request : Message
  pub whole : IsTimedRequest beyond.read request
  pub untouched : IsUntouched own beyond

-- a whole request was answered in full, but for the end of its reply, which did not go out
pub record IsCutOff (session : Session) (own : Own) (beyond : Beyond) : Type 0 where
  pub request : Message
  pub fits : IsRequest request
  pub read_is : beyond.read ≡ frame_of request
  pub outcome : Outcome
  pub answers : Answers session own request outcome
  pub readings_are : beyond.readings ≡ outcome.readings
  pub events_are : beyond.events ≡ outcome.own.events
  pub written_is : IsProperPrefix beyond.written outcome.replies

-- such a request was read and a reading taken for it, and there was no more of it than the purge
-- that comes before a decode request
pub record IsUnanswered (session : Session) (own : List Event) (beyond : Beyond) : Type 0 where
  pub request : Message
  pub whole : IsTimedRequest beyond.read request
  pub moment : ℕ
  pub readings_are : beyond.readings ≡ moment ∷ []
  pub written_none : beyond.written ≡ []
  pub events_are : beyond.events ≡ before_answer session.base own moment request

-- What a session had done of the next request, for each way to end but by Stop. The answers so far
-- are so many, and end at the byte `begins` of the input, which came to its end where `ended`
-- holds.
abbrev pub Leaves : Session → Own → (answered begins : ℕ) → (ended : Type 0) → HowEnded → Beyond
    → Type 0
Leaves session own answered begins ended Done beyond =
    (beyond.read ≡ []) × ended × IsUntouched own.events beyond
Leaves session own answered begins ended ReadFault beyond =
    IsLessThanOne beyond.read × IsUntouched own.events beyond
Leaves session own answered begins ended WriteFault beyond = IsCutOff session own beyond
Leaves session own answered begins ended ClockFault beyond = IsUnclocked own.events beyond
Leaves session own answered begins ended (Malformed place) beyond =
    (place ≡ begins) × IsNoRequest ended beyond.read × IsUntouched own.events beyond
Leaves session own answered begins ended Budget beyond =
    (answered ≡ request_limit) × (length beyond.read ≡ 1) × IsUntouched own.events beyond
Leaves session own answered begins ended NoMemory beyond =
    IsFramePrefix Requests beyond.read
    × (IsUntouched own.events beyond ⊎ IsUnanswered session own.events beyond)

-- none of these requests ends the session
abbrev pub GoesOn : Session → List Message → Type 0
GoesOn session requests = list_any (is_last session.terms.who) requests ≡ false

-- the last of these requests ends the session, and none before it: Stop, of a caller who has
-- control
pub record IsStopped (session : Session) (requests : List Message) : Type 0 where
  pub before : List Message
  pub requests_are : requests ≡ before ++ Stop ∷ []
  pub goes_on : GoesOn session before
  pub control : session.terms.who.control ≡ true

-- a session was stopped, and has done nothing since
pub record HasStopped (session : Session) (requests : List Message) (own : Own) (how : HowEnded)
    (beyond : Beyond) : Type 0 where
  pub is_stopped : IsStopped session requests
  pub is_done : how ≡ Done
  pub read_none : beyond.read ≡ []
  pub untouched : IsUntouched own.events beyond

-- how a session ended that answered these requests: by Stop, or of itself
pub data Ends (session : Session) (requests : List Message) (own : Own) (ended : Type 0)
    (how : HowEnded) (beyond : Beyond) : Type 0 where
  stopped : HasStopped session requests own how beyond → Ends session requests own ended how beyond
  left : GoesOn session requests
      → Leaves session own (length requests) (length (frames requests)) ended how beyond
      → Ends session requests own ended how beyond

-- what may be read after the last request that a session may answer: one byte at most, and nothing
-- else is done
abbrev pub AsksForOne : HowEnded → (read : List ℕ) → Type 0
AsksForOne Done read = read ≡ []
AsksForOne ReadFault read = read ≡ []
AsksForOne Budget read = length read ≡ 1
AsksForOne WriteFault read = ⊥
AsksForOne ClockFault read = ⊥
AsksForOne (Malformed place) read = ⊥
AsksForOne NoMemory read = ⊥

-- A session that came from these things to those, and to this end.
pub record SessionRan (session : Session) (end : SessionEnd) (before after : Things) : Type 0 where
  -- the requests that were answered, and what came of them
  pub requests : List Message
  pub outcome : Outcome
  pub answered : length requests ≡ end.answered
  pub within : end.answered ≤ request_limit
  pub fit : AllByRecursion IsRequest requests
  pub run : Run session nothing_done requests outcome
  -- what was done of the next one
  pub beyond : Beyond
  pub ends : let ended = CameToEnd before.outside.input after.outside.input in
      Ends session requests outcome.own ended end.how beyond
  pub at_limit : end.answered ≡ request_limit → AsksForOne end.how beyond.read
  pub moves : Moves before after (frames requests ++ beyond.read)
      (outcome.replies ++ beyond.written) (outcome.readings ++ beyond.readings)
      (session.base ++ beyond.events)
