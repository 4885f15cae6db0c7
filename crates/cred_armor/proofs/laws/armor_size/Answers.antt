use Rattle.cred_armor.proofs.Sizes.{length-armor_of}
use Rattle.cred_armor.proofs.laws.armor_size.Goals as goal

pub returns : goal.returns
returns c = length-armor_of
