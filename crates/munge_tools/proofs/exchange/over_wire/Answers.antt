use Rattle.std.proofs.Common.{◌∙◌, refl, take}
use Rattle.munge_tools.specs.Exchange.{cut}
use Rattle.munge_tools.specs.Wire.{seen_by}
use Rattle.munge_tools.proofs.ExchangeLemmas.{exchanged, not_heard, written}
use Rattle.munge_tools.proofs.OutputLemmas.{cut_is}
use Rattle.munge_tools.proofs.exchange.over_wire.Goals as goal

pub returns-in-Failed-clause-unheard : goal.returns-in-Failed-clause-unheard
returns-in-Failed-clause-unheard g c =
    let seen = seen_by g.W.Wire.dialled g.W.Wire.replies g.W.Source.left g.W.Sink.taken g.W.Source.ends g.W.Wire.dial_faults g.W.Source.read_faults g.W.Sink.write_faults in
    let laws = g.met.W.Wire in
    let front = take c.in-Failed.field-0 c.args.request.now in
    let kept = c.write_all.ensures.beside in
    cut front
    (cut_is c.in-Failed.field-0 c.args.request.now c.in-Failed.ensures.below)
    (written c.args.path.now (seen c.args.wire.now) (seen c.dial.new.self) (seen c.write_all.new.out) front
    (record { dials = c.in-Ok.ensures.path; reply = c.in-Ok.ensures.reply; taken = c.dial.ensures.taken; ends = c.dial.ensures.ends })
    (record {
      dialled = laws.writes_leave_dialled _ _ kept;
      replies = laws.writes_leave_replies _ _ kept;
      left = laws.writes_leave_left _ _ kept;
      ends = laws.writes_leave_ends _ _ kept;
    })
    c.in-Failed.ensures.appended)
    (laws.writes_leave_ends _ _ kept ∙ c.dial.ensures.ends) refl

pub returns-in-Ok-read_reply-clause-heard : goal.returns-in-Ok-read_reply-clause-heard
returns-in-Ok-read_reply-clause-heard g c =
    let seen = seen_by g.W.Wire.dialled g.W.Wire.replies g.W.Source.left g.W.Sink.taken g.W.Source.ends g.W.Wire.dial_faults g.W.Source.read_faults g.W.Sink.write_faults in
    let laws = g.met.W.Wire in
    let kept = c.write_all.ensures.beside in
    let kept' = c.read_reply.ensures.beside in
    record {
      is_message = c.in-Ok-read_reply.ensures.fits;
      dialled = exchanged c.args.path.now (seen c.args.wire.now) (seen c.dial.new.self) (seen c.write_all.new.out) (seen c.read_reply.new.input)
          c.args.request.now _
          (record { dials = c.in-Ok.ensures.path; reply = c.in-Ok.ensures.reply; taken = c.dial.ensures.taken; ends = c.dial.ensures.ends })
          (record {
            dialled = laws.writes_leave_dialled _ _ kept;
            replies = laws.writes_leave_replies _ _ kept;
            left = laws.writes_leave_left _ _ kept;
            ends = laws.writes_leave_ends _ _ kept;
          })
          c.in-All.ensures.appended
          (record {
            dialled = laws.reads_leave_dialled _ _ kept';
            replies = laws.reads_leave_replies _ _ kept';
            taken = laws.reads_leave_taken _ _ kept';
          })
          c.in-Ok-read_reply.ensures.read;
    }

pub returns-in-Ok-read_reply-clause-sound : goal.returns-in-Ok-read_reply-clause-sound
returns-in-Ok-read_reply-clause-sound g c = λ other.
    let laws = g.met.W.Wire in
    let kept = c.write_all.ensures.beside in
    let kept' = c.read_reply.ensures.beside in
    record {
      dials = laws.reads_leave_dial_faults _ _ kept' ∙ (laws.writes_leave_dial_faults _ _ kept ∙ c.in-Ok.ensures.sound);
      reads = c.in-Ok-read_reply.ensures.sound other ∙ (laws.writes_leave_read_faults _ _ kept ∙ c.dial.ensures.read_faults);
      writes = laws.reads_leave_write_faults _ _ kept' ∙ (c.in-All.ensures.failed ∙ c.dial.ensures.write_faults);
    }

pub returns-in-Err-clause-unheard : goal.returns-in-Err-clause-unheard
returns-in-Err-clause-unheard g c =
    let seen = seen_by g.W.Wire.dialled g.W.Wire.replies g.W.Source.left g.W.Sink.taken g.W.Source.ends g.W.Wire.dial_faults g.W.Source.read_faults g.W.Sink.write_faults in
    let laws = g.met.W.Wire in
    let kept = c.write_all.ensures.beside in
    let kept' = c.read_reply.ensures.beside in
    not_heard c.just_one_holds.ensures.not_the_first_two c.args.path.now c.args.request.now
    (seen c.args.wire.now) (seen c.dial.new.self) (seen c.write_all.new.out) (seen c.read_reply.new.input) c.in-Err.why
    (record { dials = c.in-Ok.ensures.path; reply = c.in-Ok.ensures.reply; taken = c.dial.ensures.taken; ends = c.dial.ensures.ends })
    (record {
      dialled = laws.writes_leave_dialled _ _ kept;
      replies = laws.writes_leave_replies _ _ kept;
      left = laws.writes_leave_left _ _ kept;
      ends = laws.writes_leave_ends _ _ kept;
    })
    c.in-All.ensures.appended
    (record {
      dialled = laws.reads_leave_dialled _ _ kept';
      replies = laws.reads_leave_replies _ _ kept';
      taken = laws.reads_leave_taken _ _ kept';
    })
    c.in-Err.ensures.stopped

pub returns-in-Err-clause-sound : goal.returns-in-Err-clause-sound
returns-in-Err-clause-sound g c = λ other.
    let laws = g.met.W.Wire in
    let kept = c.write_all.ensures.beside in
    let kept' = c.read_reply.ensures.beside in
    record {
      dials = laws.reads_leave_dial_faults _ _ kept' ∙ (laws.writes_leave_dial_faults _ _ kept ∙ c.in-Ok.ensures.sound);
      reads = c.in-Err.ensures.sound other ∙ (laws.writes_leave_read_faults _ _ kept ∙ c.dial.ensures.read_faults);
      writes = laws.reads_leave_write_faults _ _ kept' ∙ (c.in-All.ensures.failed ∙ c.dial.ensures.write_faults);
    }
