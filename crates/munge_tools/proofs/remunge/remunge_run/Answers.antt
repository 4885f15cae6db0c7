use Rattle.std.proofs.Common.{◌∙◌, sym, ap, inl, inr}
use Rattle.munge_tools.specs.Ending.{status_of}
use Rattle.munge_tools.proofs.RemungeCompleteness.{remunge_well}
use Rattle.munge_tools.proofs.EndingLemmas.{only_output_failed, only_unreached}
use Rattle.munge_tools.proofs.remunge.remunge_run.Goals as goal

pub returns-clause-ran : goal.returns-clause-ran
returns-clause-ran g c =
    record {
      how = c.run-ending.result;
      came_to = c.run-ending.ensures.came;
      number_is = c.end.ensures.status;
      said = c.end.ensures.says;
    }

pub returns-clause-wire_fault : goal.returns-clause-wire_fault
returns-clause-wire_fault g c = λ is.
    c.run-ending.ensures.wire_fault (only_unreached c.run-ending.result c.run-ending.ensures.of_reply (sym c.end.ensures.status ∙ is))

pub returns-clause-write_fault : goal.returns-clause-write_fault
returns-clause-write_fault g c = λ is.
    c.run-ending.ensures.write_fault (only_output_failed c.run-ending.result c.run-ending.ensures.of_reply (sym c.end.ensures.status ∙ is))

pub returns-clause-wire_sound : goal.returns-clause-wire_sound
returns-clause-wire_sound g c = λ other.
    c.run-ending.ensures.wire_sound (λ is. other (c.end.ensures.status ∙ ap status_of is))

pub returns-clause-writes_sound : goal.returns-clause-writes_sound
returns-clause-writes_sound g c = λ other.
    c.run-ending.ensures.writes_sound (λ is. other (c.end.ensures.status ∙ ap status_of is))

pub returns-clause-complete : goal.returns-clause-complete
returns-clause-complete g c = λ can no_wire no_writes.
    elim (remunge_well (record { one = c.frame_has_one_message.ensures; whole = c.no_frame_goes_on_to_another.ensures }) _ _ _ _ _ _ _ c.run-ending.result can
    (λ is. no_wire (c.run-ending.ensures.wire_fault is)) (λ is. no_writes (c.run-ending.ensures.write_fault is)) c.run-ending.ensures.came) [
      | inl memory ↦ inl (c.end.ensures.status ∙ ap status_of memory)
      | inr well ↦ inr (rw c.end.ensures.status well)
    ]
