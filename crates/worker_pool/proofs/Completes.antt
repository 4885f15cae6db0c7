-- What no fault can excuse: it follows from what no fault of the connection can.
use Rattle.std.proofs.Common.{ℕ, length}
use Rattle.byte_io.specs.Counts.{Rose}
use Rattle.wire_msg.specs.Spelling.{frame_of}
use Rattle.session_core.specs.Causes.{ClockCausedBy, Faults, link_faults}
use Rattle.session_core.specs.Connection.{Connection}
use Rattle.session_core.specs.WholeRequest.{AnswersIfTimed, AnswersWhole, IsComplete, IsCompleteByLink}
use Rattle.session_core.specs.declared.served.ServeEnd.{ServeEnd}
use Rattle.session_core.specs.declared.served.ServeEnd.TheVariants as how
use Rattle.session_core.specs.declared.served.Served.{Served}

-- where the clock did not fail, a call does not end for want of a reading
answers_timed : (size : ℕ) (served : Served) (end : ServeEnd) (clock clock' : ℕ)
    → ¬ Rose clock clock' → ClockCausedBy clock clock' end → AnswersIfTimed size served end → AnswersWhole size served end
answers_timed size served how.Done clock clock' sound caused answers = answers
answers_timed size served how.Stopped clock clock' sound caused answers = answers
answers_timed size served how.NoMemory clock clock' sound caused answers = answers
answers_timed size served (how.Worn ticket) clock clock' sound caused answers = answers
answers_timed size served how.ClockFault clock clock' sound caused answers = sound caused
answers_timed size served how.Quiet clock clock' sound caused answers = answers
answers_timed size served how.ReadFault clock clock' sound caused answers = answers
answers_timed size served how.WriteFault clock clock' sound caused answers = answers
answers_timed size served how.Malformed clock clock' sound caused answers = answers

pub complete_timed : (before : Connection) (faults faults' : Faults) (served : Served)
    → ClockCausedBy faults.clock faults'.clock served.how → IsCompleteByLink before (link_faults faults) (link_faults faults') served
    → IsComplete before faults faults' served
complete_timed before faults faults' served caused complete = λ request brings none_failed.
    answers_timed (length (frame_of request)) served served.how faults.clock faults'.clock none_failed.clock caused
    (complete request brings (record { reads = none_failed.reads; writes = none_failed.writes }))
