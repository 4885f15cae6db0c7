-- A connection that brings a whole request, and what has to come of it.
use Rattle.std.specs.Prelude.{◌≡◌, ℕ, List, ◌++◌, length}
use Rattle.std.specs.declared.option.Option.{Option}
use Rattle.std.specs.declared.option.Option.TheVariants.{None, Some}
use Rattle.byte_io.specs.Counts.{Rose}
use Rattle.wire_msg.specs.Spelling.{frame_of}
use Rattle.wire_msg.specs.declared.message.Message.{Message}
use Rattle.session_core.specs.Causes.{Faults, LinkFaults}
use Rattle.session_core.specs.Connection.{Connection}
use Rattle.session_core.specs.Requests.{IsRequest}
use Rattle.session_core.specs.declared.served.ServeEnd.{ServeEnd}
use Rattle.session_core.specs.declared.served.ServeEnd.TheVariants as how
use Rattle.session_core.specs.declared.served.Served.{Served}

-- the bytes left of the connection begin with this request
pub record Brings (before : Connection) (request : Message) : Type 0 where
  pub fits : IsRequest request
  pub rest : List ℕ
  pub left_is : before.input.left ≡ Some (frame_of request ++ rest)

-- no read and no write of the connection failed
pub record LinkHeld (before after : LinkFaults) : Type 0 where
  pub reads : ¬ Rose before.reads after.reads
  pub writes : ¬ Rose before.writes after.writes

-- It was answered in full, so many bytes having been read; or it was read so, and the clock gave no
-- reading; or memory was wanted, or the gate was worn.
abbrev pub AnswersIfTimed : (size : ℕ) → Served → ServeEnd → Type 0
AnswersIfTimed size served how.Done = served.read ≡ size
AnswersIfTimed size served how.Stopped = served.read ≡ size
AnswersIfTimed size served how.ClockFault = served.read ≡ size
AnswersIfTimed size served how.NoMemory = Unit {0}
AnswersIfTimed size served (how.Worn ticket) = Unit {0}
AnswersIfTimed size served how.Quiet = ⊥
AnswersIfTimed size served how.ReadFault = ⊥
AnswersIfTimed size served how.WriteFault = ⊥
AnswersIfTimed size served how.Malformed = ⊥

-- completeness by the connection: what no fault of it can excuse
abbrev pub IsCompleteByLink : (before : Connection) → (faults faults' : LinkFaults) → Served
    → Type 0
IsCompleteByLink before faults faults' served =
    (request : Message) → Brings before request → LinkHeld faults faults'
    → AnswersIfTimed (length (frame_of request)) served served.how

-- no read, no write and no call of the clock failed
pub record NoneFailed (before after : Faults) : Type 0 where
  pub reads : ¬ Rose before.reads after.reads
  pub writes : ¬ Rose before.writes after.writes
  pub clock : ¬ Rose before.clock after.clock

-- it was answered in full, so many bytes having been read; or memory was wanted, or the gate was
-- worn
abbrev pub AnswersWhole : (size : ℕ) → Served → ServeEnd → Type 0
AnswersWhole size served how.Done = served.read ≡ size
AnswersWhole size served how.Stopped = served.read ≡ size
AnswersWhole size served how.NoMemory = Unit {0}
AnswersWhole size served (how.Worn ticket) = Unit {0}
AnswersWhole size served how.Quiet = ⊥
AnswersWhole size served how.ReadFault = ⊥
AnswersWhole size served how.WriteFault = ⊥
AnswersWhole size served how.ClockFault = ⊥
AnswersWhole size served how.Malformed = ⊥

-- Completeness: what no fault can excuse. It follows from the one by the connection, where a fault
-- of the clock is told only where its count rose.
abbrev pub IsComplete : (before : Connection) → (faults faults' : Faults) → Served → Type 0
IsComplete before faults faults' served =
    (request : Message) → Brings before request → NoneFailed faults faults'
    → AnswersWhole (length (frame_of request)) served served.how
