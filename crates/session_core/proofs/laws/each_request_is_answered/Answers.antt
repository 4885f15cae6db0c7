use Rattle.session_core.proofs.RunParts.{answered_within}
use Rattle.session_core.proofs.laws.each_request_is_answered.Goals as goal

pub returns : goal.returns
returns c = answered_within
