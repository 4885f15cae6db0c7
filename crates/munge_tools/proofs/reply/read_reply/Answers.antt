use Rattle.munge_tools.proofs.ReplyLemmas.{stopped_more}
use Rattle.munge_tools.specs.ReplyRead.{input_of}
use Rattle.munge_tools.proofs.reply.read_reply.Goals as goal

pub returns-in-Err-clause-stopped : goal.returns-in-Err-clause-stopped
returns-in-Err-clause-stopped g c =
    stopped_more (input_of (g.I.Source.left c.args.input.now) (g.I.Source.ends c.args.input.now))
    (input_of (g.I.Source.left c.pieces.input) (g.I.Source.ends c.pieces.input))
    (input_of (g.I.Source.left c.read_piece.new.input) (g.I.Source.ends c.read_piece.new.input))
    c.pieces.feeder.unfinished c.in-Err.why c.pieces.invariant.read c.pieces.invariant.ends c.in-Err.ensures.stopped
