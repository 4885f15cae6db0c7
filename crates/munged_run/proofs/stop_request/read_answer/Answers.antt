use Rattle.session_core.specs.Things.{input_of}
use Rattle.munged_run.proofs.StopLemmas.{read_failed, read_other, read_short}
use Rattle.munged_run.proofs.stop_request.read_answer.Goals as goal

pub returns-else-eq-clause-read : goal.returns-else-eq-clause-read
returns-else-eq-clause-read g c =
    read_other
    (input_of (g.I.Source.left c.args.input.now) (g.I.Source.ends c.args.input.now))
    (input_of (g.I.Source.left c.read_full.new.input) (g.I.Source.ends c.read_full.new.input))
    c.read_full.new.into c.as_slice.result.now c.args.answer.now c.eq.result
    c.eq.ensures c.if-eq.false c.as_slice.ensures c.requires c.read_full.auto.into
    c.in-Full.ensures.consumed

pub returns-in-Short-clause-read : goal.returns-in-Short-clause-read
returns-in-Short-clause-read g c =
    read_short
    (input_of (g.I.Source.left c.args.input.now) (g.I.Source.ends c.args.input.now))
    (input_of (g.I.Source.left c.read_full.new.input) (g.I.Source.ends c.read_full.new.input))
    c.read_full.new.into c.in-Short.field-0 c.read_full.auto.into c.in-Short.ensures.below
    c.in-Short.ensures.consumed c.in-Short.ensures.ended c.in-Short.ensures.at_end

pub returns-in-Failed-clause-read : goal.returns-in-Failed-clause-read
returns-in-Failed-clause-read g c =
    read_failed
    (input_of (g.I.Source.left c.args.input.now) (g.I.Source.ends c.args.input.now))
    (input_of (g.I.Source.left c.read_full.new.input) (g.I.Source.ends c.read_full.new.input))
    c.read_full.new.into c.in-Failed.field-0 c.read_full.auto.into c.in-Failed.ensures.below
    c.in-Failed.ensures.consumed
