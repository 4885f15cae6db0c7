use Rattle.session_core.proofs.OneAnswer.{run_one}
use Rattle.session_core.proofs.laws.run_is_one.Goals as goal

pub returns : goal.returns
returns c = run_one c.answer_is_one.ensures
