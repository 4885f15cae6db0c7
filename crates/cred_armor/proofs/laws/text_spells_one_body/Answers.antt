use Rattle.cred_armor.proofs.Spelling.{spells_unique}
use Rattle.cred_armor.proofs.laws.text_spells_one_body.Goals as goal

pub returns : goal.returns
returns c = spells_unique
