use Rattle.std.proofs.Common.{refl, sym}
use Rattle.munged_run.specs.Program.{check, no_command, session}
use Rattle.munged_run.specs.SessionCommand.{asked_told}
use Rattle.munged_run.proofs.Completeness.{complete_run}
use Rattle.munged_run.proofs.StreamOfRequests.{FrameLaws}
use Rattle.munged_run.proofs.run.munged_run.Goals as goal

pub returns-in-Some-Session-clause-ran : goal.returns-in-Some-Session-clause-ran
returns-in-Some-Session-clause-ran g c =
    record {
      how = _;
      came_to = session (asked_told c.in-Some-Session.asked) (sym (rw c.in-Some-Session.field-0-is at c.in-Some-Session.ensures))
          c.run_session-ending.ensures.came;
      number_is = c.end.ensures.status;
      said = c.end.ensures.says;
    }

pub returns-in-Some-Session-clause-complete : goal.returns-in-Some-Session-clause-complete
returns-in-Some-Session-clause-complete g c = λ whole files_sound reads_sound writes_sound clock_sound.
    let laws : FrameLaws = record {
      one = c.frame_has_one_message.ensures;
      apart = c.no_frame_goes_on_to_another.ensures;
    } in
    complete_run laws _ (asked_told c.in-Some-Session.asked) _ _ _ _ _ _ _ _ _ _ whole
    (sym (rw c.in-Some-Session.field-0-is at c.in-Some-Session.ensures)) c.end.ensures.status
    c.run_session-ending.ensures.file_fault c.run_session-ending.ensures.read_fault
    c.run_session-ending.ensures.write_fault c.run_session-ending.ensures.clock_fault
    files_sound reads_sound writes_sound clock_sound c.run_session-ending.ensures.came

pub returns-in-Some-Check-clause-ran : goal.returns-in-Some-Check-clause-ran
returns-in-Some-Check-clause-ran g c =
    let came = c.run_check.ensures.came in
    record {
      how = came.how;
      came_to = check c.in-Some-Check.config.now (sym (rw c.in-Some-Check.field-0-is at c.in-Some-Check.ensures)) (refl, refl)
          came.came_to;
      number_is = came.number_is;
      said = came.said;
    }

pub returns-in-None-clause-ran : goal.returns-in-None-clause-ran
returns-in-None-clause-ran g c =
    record {
      how = _;
      came_to = no_command (sym c.in-None.ensures) (refl, refl) refl refl;
      number_is = c.end-in-None.ensures.status;
      said = c.end-in-None.ensures.says;
    }
