use Rattle.std.proofs.Common.{arith}
use Rattle.hmac_core.proofs.Differences.{gathers_more}
use Rattle.hmac_core.proofs.comparison.equal.Goals as goal

pub loop-i-preserved : goal.loop-i-preserved
loop-i-preserved c =
    let within = c.loop-i-test.true in
    let sizes = c.if-mac-bytes.false in
    gathers_more c.loop-i.difference c.loop-i.i c.bytes-mac.result.now c.args.bytes.now (omega arith) (omega arith) c.loop-i.invariant
