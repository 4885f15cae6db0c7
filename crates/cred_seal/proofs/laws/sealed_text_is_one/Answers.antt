use Rattle.cred_seal.proofs.Once.{sealed_once}
use Rattle.cred_seal.proofs.laws.sealed_text_is_one.Goals as goal

pub returns : goal.returns
returns c = sealed_once
