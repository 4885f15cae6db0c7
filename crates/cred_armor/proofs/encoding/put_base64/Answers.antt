use Rattle.std.proofs.Common.{◌-◌, ◌*◌, ◌/◌, length, arith}
use Rattle.cred_armor.proofs.Begun.{pieces_none, pieces_more, pieces_all}
use Rattle.cred_armor.proofs.encoding.put_base64.Goals as goal

pub loop-number-init : goal.loop-number-init
loop-number-init c = record {
  appended = pieces_none c.args.out.now.bytes c.args.body.now;
  lowered = omega arith;
}

pub loop-number-preserved : goal.loop-number-preserved
loop-number-preserved c = record {
  appended = pieces_more _ _ _ c.args.body.now c.loop-number.number _ c.loop-number.invariant.appended c.put_piece.ensures.appended (omega arith) (omega arith);
  lowered = omega arith;
}

pub returns-clause-appended : goal.returns-clause-appended
returns-clause-appended c =
    pieces_all _ _ _ c.args.body.now c.loop-number.number (length c.args.body.now / 768)
    (length c.args.body.now - 768 * (length c.args.body.now / 768)) c.loop-number.invariant.appended c.put_piece-2.ensures.appended (omega arith) (omega arith)
    (omega arith)
