use Rattle.cred_outer.proofs.Parts.{parts_once}
use Rattle.cred_outer.proofs.laws.body_has_its_parts_once.Goals as goal

pub returns : goal.returns
returns c = parts_once
