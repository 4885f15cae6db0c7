use Rattle.session_core.proofs.SealedOpens.{sealed_opens}
use Rattle.session_core.proofs.laws.what_was_sealed_opens.Goals as goal

pub returns : goal.returns
returns c = sealed_opens c.finding_is_one.ensures
