use Rattle.std.proofs.Common.{arith}
use Rattle.cbc_mode.proofs.Xor.{xor_of}
use Rattle.cbc_mode.proofs.block.add.Goals as goal

pub returns : goal.returns
returns c =
    xor_of _ _ c.told-sum c.told-block _ c.loop-i.invariant.long (λ k below. c.loop-i.invariant.added k (omega arith))
