use Rattle.std.proofs.Common.{arith}
use Rattle.cbc_mode.proofs.Chains.{sealed_none, sealed_step, sealed_all, sealed_then}
use Rattle.cbc_mode.proofs.sealing.seal_chained.Goals as goal

pub loop-number-init : goal.loop-number-init
loop-number-init c = sealed_none _ _ _

pub loop-number-preserved : goal.loop-number-preserved
loop-number-preserved c =
    sealed_step _ _ _ _ _ _ _ c.loop-number.number _ c.loop-number.invariant (omega arith) c.loop-number-test.true
    c.loop-number.auto.buf c.seal_block.array_long c.seal_block.ensures.kept c.seal_block.ensures.made

pub returns : goal.returns
returns c = record {
  made = sealed_all _ _ _ _ _ _ c.loop-number.invariant c.loop-number.auto.buf (omega arith);
  goes_on = sealed_then _ _ _ _ _ _ c.loop-number.invariant c.loop-number.auto.buf (omega arith);
}
