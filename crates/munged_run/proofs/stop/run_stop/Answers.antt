use Rattle.std.proofs.Common.{refl}
use Rattle.munged_files.specs.Ending.{ending_by}
use Rattle.munged_run.specs.Stop.{after_asking, by_options, no_options}
use Rattle.munged_run.proofs.CheckLemmas.{no_options_by}
use Rattle.munged_run.proofs.stop.run_stop.Goals as goal

pub returns-in-Ok-read-clause-came : goal.returns-in-Ok-read-clause-came
returns-in-Ok-read-clause-came g c =
    let accepted = rw c.deref.ensures.value at c.in-Ok-read.ensures.accepted in
    let said = rw c.deref.ensures.value at c.in-Ok-read.ensures.said in
    record {
      how = after_asking c.stop_by-asked.result;
      came_to = by_options c.in-Ok-read.options
          (record {
            bytes = c.in-Ok.bytes.items;
            read = c.in-Ok.ensures.read;
            accepted = accepted;
            said_is = said;
          })
          c.stop_by-asked.result (rw c.sockets.ensures.same at c.stop_by-asked.ensures.came) refl;
      number_is = rw c.after_asking.ensures at c.end.ensures.status;
      said = rw c.after_asking.ensures at c.end.ensures.says;
    }

pub returns-clause-came : goal.returns-clause-came
returns-clause-came g c =
    let first = rw c.deref.ensures.value at c.in-Err-read.ensures.refused in
    record {
      how = ending_by c.in-Err-read.refused;
      came_to = no_options refl (no_options_by _ _ c.in-Ok.bytes.items c.in-Err-read.refused
          c.in-Ok.ensures.read first);
      number_is = rw c.by.ensures at c.unasked-in-Err-read.ensures.status;
      said = rw c.by.ensures at c.unasked-in-Err-read.ensures.says;
    }
