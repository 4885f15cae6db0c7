use Rattle.cred_inner.proofs.InnerFields.{inner_part_length}
use Rattle.cred_inner.proofs.laws.inner_part_size.Goals as goal

pub returns : goal.returns
returns c = inner_part_length
