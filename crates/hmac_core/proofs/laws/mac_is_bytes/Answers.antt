use Rattle.hmac_core.proofs.Bytes.{All-hmac}
use Rattle.hmac_core.proofs.laws.mac_is_bytes.Goals as goal

pub returns : goal.returns
returns c = All-hmac
