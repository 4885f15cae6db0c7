use Rattle.std.proofs.Common.{◌*◌}
use Rattle.aes_block.specs.DataKey.{key_of}
use Rattle.cbc_mode.proofs.Chains.{IsSealedUpTo}
use Rattle.cbc_mode.proofs.sealing.seal_chained.Given as goal

abbrev pub invariant-loop-number : goal.invariant-loop-number
invariant-loop-number l = IsSealedUpTo (key_of l.key) l.initial.before l.initial.buf l.buf l.before (16 * l.number)
