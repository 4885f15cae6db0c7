use Rattle.std.proofs.Common.{◌∙◌, sym, ap, inl, inr}
use Rattle.munge_tools.specs.Ending.{status_of}
use Rattle.munge_tools.proofs.Completeness.{munge_well}
use Rattle.munge_tools.proofs.EndingLemmas.{only_input_failed, only_output_failed, only_unreached}
use Rattle.munge_tools.proofs.munge.munge_run.Goals as goal

pub returns-clause-ran : goal.returns-clause-ran
returns-clause-ran g c =
    record {
      how = c.run-ending.result;
      came_to = c.run-ending.ensures.came;
      number_is = c.end.ensures.status;
      said = c.end.ensures.says;
    }

pub returns-clause-wire_fault : goal.returns-clause-wire_fault
returns-clause-wire_fault g c = λ is.
    c.run-ending.ensures.wire_fault (only_unreached c.run-ending.result c.run-ending.ensures.of_reply (sym c.end.ensures.status ∙ is))

pub returns-clause-read_fault : goal.returns-clause-read_fault
returns-clause-read_fault g c = λ is.
    c.run-ending.ensures.read_fault (only_input_failed c.run-ending.result c.run-ending.ensures.of_reply (sym c.end.ensures.status ∙ is))

pub returns-clause-write_fault : goal.returns-clause-write_fault
returns-clause-write_fault g c = λ is.
    c.run-ending.ensures.write_fault (only_output_failed c.run-ending.result c.run-ending.ensures.of_reply (sym c.end.ensures.status ∙ is))

pub returns-clause-wire_sound : goal.returns-clause-wire_sound
returns-clause-wire_sound g c = λ other.
    c.run-ending.ensures.wire_sound (λ is. other (c.end.ensures.status ∙ ap status_of is))

pub returns-clause-reads_sound : goal.returns-clause-reads_sound
returns-clause-reads_sound g c = λ other.
    c.run-ending.ensures.reads_sound (λ is. other (c.end.ensures.status ∙ ap status_of is))

pub returns-clause-writes_sound : goal.returns-clause-writes_sound
returns-clause-writes_sound g c = λ other.
    c.run-ending.ensures.writes_sound (λ is. other (c.end.ensures.status ∙ ap status_of is))

pub returns-clause-complete : goal.returns-clause-complete
returns-clause-complete g c = λ can no_wire no_reads no_writes.
    elim (munge_well (record { one = c.frame_has_one_message.ensures; whole = c.no_frame_goes_on_to_another.ensures }) _ _ _ _ c.run-ending.result can
    (λ is. no_wire (c.run-ending.ensures.wire_fault is)) (λ is. no_reads (c.run-ending.ensures.read_fault is))
    (λ is. no_writes (c.run-ending.ensures.write_fault is)) c.run-ending.ensures.came) [
      | inl memory ↦ inl (c.end.ensures.status ∙ ap status_of memory)
      | inr well ↦ inr (c.end.ensures.status ∙ well.0, well.1)
    ]
