-- A session between two requests, and after the last that it may answer.
use Rattle.std.specs.Prelude.{◌≡◌, ℕ, List, ◌++◌, length}
use Rattle.std.specs.List.{AllByRecursion}
use Rattle.wire_msg.specs.declared.message.Message.{Message}
use Rattle.session_core.specs.Answering.{Outcome, Run, nothing_done}
use Rattle.session_core.specs.Reading.{Reads}
use Rattle.session_core.specs.Requests.{IsRequest, frames}
use Rattle.session_core.specs.Session.{Session}
use Rattle.session_core.specs.SessionRan.{AsksForOne, GoesOn}
use Rattle.session_core.specs.Things.{CameToEnd, Input, Moves, Things}
use Rattle.session_core.specs.Turn.{IsAt, Stage}
use Rattle.session_core.specs.declared.end.HowEnded.{HowEnded}
use Rattle.session_core.specs.declared.end.HowEnded.TheVariants.{Done}

-- so many requests were answered, their frames end at this byte, and the session has come so far
pub record RunSoFar (session : Session) (before now : Things) (answered begins : ℕ)
    (stage : Stage) : Type 0 where
  pub requests : List Message
  pub outcome : Outcome
  pub count : length requests ≡ answered
  pub fit : AllByRecursion IsRequest requests
  pub goes_on : GoesOn session requests
  pub run : Run session nothing_done requests outcome
  pub moves : Moves before now (frames requests) outcome.replies outcome.readings
      (session.base ++ outcome.own.events)
  pub begins_is : begins ≡ length (frames requests)
  pub is_at : IsAt outcome.own stage

-- what the input was asked for after the last request that may be answered
pub record IsAsked (how : HowEnded) (before after : Input) : Type 0 where
  pub asked : Reads before after (AsksForOne how)
  pub ended : how ≡ Done → CameToEnd before after
