use Rattle.munge_tools.specs.Remunge.{asked}
use Rattle.munge_tools.specs.RemungeAskedTold.{remunge_told}
use Rattle.munge_tools.proofs.remunge.run.Goals as goal

pub returns-in-Ok-clause-came : goal.returns-in-Ok-clause-came
returns-in-Ok-clause-came g c = asked (remunge_told c.in-Ok.asked) c.in-Ok.ensures.ok c.make_all.ensures.came
