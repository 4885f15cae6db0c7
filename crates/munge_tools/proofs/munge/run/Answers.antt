use Rattle.munge_tools.specs.Munge.{asked}
use Rattle.munge_tools.specs.MungeAskedTold.{munge_told}
use Rattle.munge_tools.proofs.munge.run.Goals as goal

pub returns-in-Ok-clause-came : goal.returns-in-Ok-clause-came
returns-in-Ok-clause-came g c = asked (munge_told c.in-Ok.asked) c.in-Ok.ensures.ok c.seal.ensures.came
