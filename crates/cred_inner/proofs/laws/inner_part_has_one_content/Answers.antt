use Rattle.cred_inner.proofs.InnerFields.{inner_part_once}
use Rattle.cred_inner.proofs.laws.inner_part_has_one_content.Goals as goal

pub returns : goal.returns
returns c = inner_part_once
