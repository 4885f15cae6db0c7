use Rattle.std.proofs.Common.{refl, arith}
use Rattle.cbc_mode.proofs.Pieces.{written_none, written_more, written_appended}
use Rattle.cbc_mode.proofs.cbc_out.CbcOut.write_blocks.Goals as goal

pub pieces-init : goal.pieces-init
pieces-init g c = written_none _ _ _ _ _ c.requires.few

pub pieces-preserved : goal.pieces-preserved
pieces-preserved g c =
    written_more c.args.self.now c.pieces.self c.args.part.now c.pieces.at _ _ _ _ _ _ c.pieces.invariant
    c.min-end.result c.requires.whole (omega arith) c.pieces-test.true
    c.write_piece.new.self _ _ _ _ refl c.write_piece.ensures.key c.write_piece.ensures.none_waits c.write_piece.ensures.goes_on
    c.write_piece.ensures.appended c.write_piece.ensures.lowered c.write_piece.ensures.same_base

pub returns-clause-appended : goal.returns-clause-appended
returns-clause-appended g c =
    written_appended c.args.self.now c.pieces.self c.args.part.now c.pieces.at _ _ _ _ _ _ c.pieces.invariant c.pieces-test.false c.requires.whole
