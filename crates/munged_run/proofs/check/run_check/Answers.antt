use Rattle.std.proofs.Common.{refl}
use Rattle.munged_run.specs.Check.{checked, no_options}
use Rattle.munged_files.specs.Ending.{ending_by}
use Rattle.munged_run.proofs.CheckLemmas.{no_options_by}
use Rattle.munged_run.proofs.check.run_check.Goals as goal

pub returns-in-Ok-read-clause-came : goal.returns-in-Ok-read-clause-came
returns-in-Ok-read-clause-came g c =
    let accepted = rw c.deref.ensures.value at c.in-Ok-read.ensures.accepted in
    let said = rw c.deref.ensures.value at c.in-Ok-read.ensures.said in
    record {
      how = _;
      came_to = checked c.in-Ok-read.options
          (record {
            bytes = c.in-Ok.bytes.items;
            read = c.in-Ok.ensures.read;
            accepted = accepted;
            said_is = said;
          })
          (rw c.in-Ok.ensures.kept at c.check_files-ending.ensures.checked);
      number_is = c.end-in-Ok-read.ensures.status;
      said = c.end-in-Ok-read.ensures.says;
    }

pub returns-clause-came : goal.returns-clause-came
returns-clause-came g c =
    let first = rw c.deref.ensures.value at c.in-Err-read.ensures.refused in
    record {
      how = ending_by c.in-Err-read.refused;
      came_to = no_options refl (no_options_by _ _ c.in-Ok.bytes.items c.in-Err-read.refused
          c.in-Ok.ensures.read first);
      number_is = rw c.by.ensures at c.end-in-Err-read.ensures.status;
      said = rw c.by.ensures at c.end-in-Err-read.ensures.says;
    }
