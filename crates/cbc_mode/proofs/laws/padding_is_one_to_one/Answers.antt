use Rattle.cbc_mode.proofs.Pads.{length-padded, whole-padded, IsBlocks-padded, padded_one_to_one}
use Rattle.cbc_mode.proofs.laws.padding_is_one_to_one.Goals as goal

pub returns : goal.returns
returns c = record { size = length-padded; whole = whole-padded; blocks = IsBlocks-padded; one = padded_one_to_one }
