use Rattle.std.proofs.Common.{◌∙◌}
use Rattle.munged_run.specs.Wire.{seen_by}
use Rattle.munged_run.proofs.StopLemmas.{cut_asked, stop_asked}
use Rattle.munged_run.proofs.stop_request.over_wire.Goals as goal

pub returns-in-Failed-clause-asked : goal.returns-in-Failed-clause-asked
returns-in-Failed-clause-asked g c =
    let seen = seen_by g.H.Wire.dialled g.H.Wire.replies g.H.Source.left g.H.Sink.taken g.H.Source.ends g.H.Wire.dial_faults g.H.Source.read_faults g.H.Sink.write_faults in
    let laws = g.met.H.Wire in
    let kept = c.write_all.ensures.beside in
    cut_asked c.args.path.now _ (seen c.args.hall.now) (seen c.dial.new.self) (seen c.write_all.new.out)
    c.args.request.now c.in-Failed.field-0 c.requires.request c.in-Failed.ensures.below
    (record { dials = c.in-Ok.ensures.path; reply = c.in-Ok.ensures.reply; taken = c.dial.ensures.taken; ends = c.dial.ensures.ends })
    (record {
      dialled = laws.writes_leave_dialled _ _ kept;
      replies = laws.writes_leave_replies _ _ kept;
      left = laws.writes_leave_left _ _ kept;
      ends = laws.writes_leave_ends _ _ kept;
    })
    c.in-Failed.ensures.appended

pub returns-in-All-clause-asked : goal.returns-in-All-clause-asked
returns-in-All-clause-asked g c =
    let seen = seen_by g.H.Wire.dialled g.H.Wire.replies g.H.Source.left g.H.Sink.taken g.H.Source.ends g.H.Wire.dial_faults g.H.Source.read_faults g.H.Sink.write_faults in
    let laws = g.met.H.Wire in
    let kept = c.write_all.ensures.beside in
    let kept' = c.read_answer.ensures.beside in
    stop_asked c.args.path.now _ (seen c.args.hall.now) (seen c.dial.new.self) (seen c.write_all.new.out)
    (seen c.read_answer.new.input) c.args.request.now c.read_answer.result c.requires.request
    (record { dials = c.in-Ok.ensures.path; reply = c.in-Ok.ensures.reply; taken = c.dial.ensures.taken; ends = c.dial.ensures.ends })
    (record {
      dialled = laws.writes_leave_dialled _ _ kept;
      replies = laws.writes_leave_replies _ _ kept;
      left = laws.writes_leave_left _ _ kept;
      ends = laws.writes_leave_ends _ _ kept;
    })
    c.in-All.ensures.appended
    (record {
      dialled = laws.reads_leave_dialled _ _ kept';
      replies = laws.reads_leave_replies _ _ kept';
      taken = laws.reads_leave_taken _ _ kept';
    })
    c.read_answer.ensures.read

pub returns-in-All-clause-sound : goal.returns-in-All-clause-sound
returns-in-All-clause-sound g c = λ other.
    let laws = g.met.H.Wire in
    let kept = c.write_all.ensures.beside in
    let kept' = c.read_answer.ensures.beside in
    record {
      dials = laws.reads_leave_dial_faults _ _ kept' ∙ (laws.writes_leave_dial_faults _ _ kept ∙ c.in-Ok.ensures.sound);
      reads = c.read_answer.ensures.sound other ∙ (laws.writes_leave_read_faults _ _ kept ∙ c.dial.ensures.read_faults);
      writes = laws.reads_leave_write_faults _ _ kept' ∙ (c.in-All.ensures.failed ∙ c.dial.ensures.write_faults);
    }

pub returns-in-All-clause-doors : goal.returns-in-All-clause-doors
returns-in-All-clause-doors g c =
    let laws = g.met.H.Hall in
    laws.reads_leave_doors _ _ c.read_answer.ensures.beside
    ∙ (laws.writes_leave_doors _ _ c.write_all.ensures.beside ∙ laws.dials_leave_doors _ _ c.dial.ensures.beside)

pub returns-in-All-clause-hall_faults : goal.returns-in-All-clause-hall_faults
returns-in-All-clause-hall_faults g c =
    let laws = g.met.H.Hall in
    laws.reads_leave_hall_faults _ _ c.read_answer.ensures.beside
    ∙ (laws.writes_leave_hall_faults _ _ c.write_all.ensures.beside ∙ laws.dials_leave_hall_faults _ _ c.dial.ensures.beside)

pub returns-in-Failed-clause-doors : goal.returns-in-Failed-clause-doors
returns-in-Failed-clause-doors g c =
    let laws = g.met.H.Hall in
    laws.writes_leave_doors _ _ c.write_all.ensures.beside ∙ laws.dials_leave_doors _ _ c.dial.ensures.beside

pub returns-in-Failed-clause-hall_faults : goal.returns-in-Failed-clause-hall_faults
returns-in-Failed-clause-hall_faults g c =
    let laws = g.met.H.Hall in
    laws.writes_leave_hall_faults _ _ c.write_all.ensures.beside ∙ laws.dials_leave_hall_faults _ _ c.dial.ensures.beside
