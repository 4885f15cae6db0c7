use Rattle.munge_tools.proofs.ReplyLemmas.{piece_came}
use Rattle.munge_tools.proofs.reply.take_piece.Goals as goal

pub returns-in-Ok-Message-clause-came : goal.returns-in-Ok-Message-clause-came
returns-in-Ok-Message-clause-came c =
    piece_came c.args.feeder.now c.feed.new.self c.args.piece.now c.in-Ok-Message.message _ c.requires.side c.requires.within
    (rw c.in-Ok-Message.field-0-is at c.in-Ok-Message.ensures.answers)
