-- What is read of the answer to a request to stop.
use Rattle.std.specs.Prelude.{◌≡◌, ◌≢◌, ℕ, ◌<◌, List, length}
use Rattle.std.specs.Io.KnownBytes.{Consumes}
use Rattle.session_core.specs.Things.{CameToEnd, Input}
use Rattle.munged_run.specs.Stop.{stop_answer}
use Rattle.munged_run.specs.declared.stop_request.AskedToStop.{AskedToStop}
use Rattle.munged_run.specs.declared.stop_request.AskedToStop.TheVariants.{Failed, Other, Stops}

-- for each end
pub data AnswerRead (before after : Input) (how : AskedToStop) : Type 0 where
  -- a read failed
  failed : (bytes : List ℕ) → length bytes < length stop_answer
      → Consumes before.left after.left bytes → how ≡ Failed → AnswerRead before after how
  -- it ended early
  ended : (bytes : List ℕ) → length bytes < length stop_answer
      → Consumes before.left after.left bytes → CameToEnd before after → how ≡ Other
      → AnswerRead before after how
  -- it is another
  other_bytes : (bytes : List ℕ) → length bytes ≡ length stop_answer → bytes ≢ stop_answer
      → Consumes before.left after.left bytes → how ≡ Other → AnswerRead before after how
  -- it is that the daemon stops
  right : Consumes before.left after.left stop_answer → how ≡ Stops
      → AnswerRead before after how
