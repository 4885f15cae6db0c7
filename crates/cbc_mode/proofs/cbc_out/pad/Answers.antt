use Rattle.std.proofs.Common.{arith}
use Rattle.cbc_mode.proofs.Parts.{padded_is}
use Rattle.cbc_mode.proofs.cbc_out.pad.Goals as goal

pub returns : goal.returns
returns c =
    padded_is c.args.bytes.now _ _ _ _ c.copy_from_slice.ensures.after (c.fill.ensures.after (λ y same. same)) c.pad_size.ensures c.requires.few (omega (arith, c.requires.block))
