use Rattle.std.proofs.Common.{sym}
use Rattle.munged_run.specs.Stop.{asked}
use Rattle.munged_run.proofs.stop.stop_by.Goals as goal

pub returns-in-Some-clause-came : goal.returns-in-Some-clause-came
returns-in-Some-clause-came g c =
    asked c.in-Some.path.now (sym c.in-Some.ensures) c.ask_to_stop.ensures.asked
