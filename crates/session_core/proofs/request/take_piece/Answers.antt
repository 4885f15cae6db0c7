use Rattle.session_core.proofs.RequestLemmas.{part_prefix, piece_comes, piece_not_bad, piece_wants}
use Rattle.session_core.proofs.request.take_piece.Goals as goal

pub unreachable-requires : goal.unreachable-requires
unreachable-requires c =
    piece_not_bad c.args.feeder.now c.args.piece.now c.args.wanted _ c.requires.side c.requires.wants (λ i. (c.type_inv.piece i).fits) c.requires.within
    (rw c.in-Ok-Bad.field-0-is at c.in-Ok-Bad.ensures.answers)

pub returns-in-Ok-Message-clause-comes : goal.returns-in-Ok-Message-clause-comes
returns-in-Ok-Message-clause-comes c =
    piece_comes c.args.feeder.now c.args.piece.now c.args.wanted c.in-Ok-Message.message _ c.requires.side c.requires.wants c.requires.within
    (rw c.in-Ok-Message.field-0-is at c.in-Ok-Message.ensures.answers)

pub returns-in-Ok-More-clause-comes : goal.returns-in-Ok-More-clause-comes
returns-in-Ok-More-clause-comes c =
    piece_wants c.args.feeder.now c.args.piece.now c.args.wanted c.requires.side c.requires.wants (λ i. (c.type_inv.piece i).fits) c.requires.within
    (rw c.in-Ok-More.field-0-is at c.in-Ok-More.ensures.answers)

pub returns-in-Err-clause-wants_memory : goal.returns-in-Err-clause-wants_memory
returns-in-Err-clause-wants_memory c =
    part_prefix c.args.feeder.now.unfinished c.args.piece.now c.args.wanted c.requires.wants (λ i. (c.type_inv.piece i).fits) c.requires.within
