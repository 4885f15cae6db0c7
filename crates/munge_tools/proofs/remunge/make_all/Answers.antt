use Rattle.std.proofs.Common.{refl}
use Rattle.munge_tools.specs.Remunge.{ran, stopped}
use Rattle.munge_tools.proofs.remunge.make_all.Goals as goal

pub returns-in-Ok-clause-came : goal.returns-in-Ok-clause-came
returns-in-Ok-clause-came g c = ran c.in-Ok.totals c.in-Ok.ensures.ran c.tell.ensures.told

pub returns-in-Err-clause-came : goal.returns-in-Err-clause-came
returns-in-Err-clause-came g c = stopped c.in-Err.why c.in-Err.ensures.stopped refl c.of.ensures
