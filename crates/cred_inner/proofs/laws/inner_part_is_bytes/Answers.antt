use Rattle.cred_inner.proofs.InnerBytes.{inner_part_bytes}
use Rattle.cred_inner.proofs.laws.inner_part_is_bytes.Goals as goal

pub returns : goal.returns
returns c = inner_part_bytes
