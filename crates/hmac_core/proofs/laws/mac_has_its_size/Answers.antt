use Rattle.hmac_core.proofs.Sizes.{length-hmac}
use Rattle.hmac_core.proofs.laws.mac_has_its_size.Goals as goal

pub returns : goal.returns
returns c = length-hmac
