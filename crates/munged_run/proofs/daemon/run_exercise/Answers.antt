use Rattle.std.proofs.Common.{refl, ◌∙◌}
use Rattle.munged_run.specs.Daemon.{served, unserved}
use Rattle.munged_run.proofs.daemon.run_exercise.Goals as goal

pub returns-in-Ok-clause-came : goal.returns-in-Ok-clause-came
returns-in-Ok-clause-came g c =
    let by = c.in-Ok.ensures in
    record {
      how = _;
      came_to = served by.history (record {
        wanted = c.in-Ok.served.wanted;
        served = by.served;
        whole = by.whole;
        told = c.print_totals-ending.ensures;
      });
      number_is = c.end.ensures.status;
      said = c.end.ensures.says;
    }

pub returns-in-Err-clause-came : goal.returns-in-Err-clause-came
returns-in-Err-clause-came g c =
    record {
      how = _;
      came_to = unserved refl c.unserved.ensures.nothing refl;
      number_is = c.unserved.ensures.status ∙ c.end-in-Err.ensures.status;
      said = c.end-in-Err.ensures.says;
    }
