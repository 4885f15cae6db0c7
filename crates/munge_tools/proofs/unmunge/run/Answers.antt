use Rattle.munge_tools.specs.Unmunge.{asked}
use Rattle.munge_tools.specs.UnmungeAskedTold.{unmunge_told}
use Rattle.munge_tools.proofs.unmunge.run.Goals as goal

pub returns-in-Ok-clause-came : goal.returns-in-Ok-clause-came
returns-in-Ok-clause-came g c = asked (unmunge_told c.in-Ok.asked) c.in-Ok.ensures.ok c.open_text.ensures.came
