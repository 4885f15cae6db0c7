use Rattle.std.proofs.Common.{refl}
use Rattle.aes_block.specs.DataKey.{key_of}
use Rattle.cbc_mode.proofs.Parts.{chains_none}
use Rattle.cbc_mode.proofs.cbc_out.CbcOut.new.Goals as goal

pub returns : goal.returns
returns c = chains_none _ (key_of c.args.key.now) c.args.iv.now refl refl refl
