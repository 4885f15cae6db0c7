use Rattle.session_core.proofs.OneAnswer.{answer_one}
use Rattle.session_core.proofs.laws.answer_is_one.Goals as goal

pub returns : goal.returns
returns c = answer_one c.finding_is_one.ensures c.sealed_text_is_one.ensures
