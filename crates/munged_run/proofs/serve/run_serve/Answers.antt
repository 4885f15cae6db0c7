use Rattle.std.proofs.Common.{refl, ap, ◌∙◌, option_map}
use Rattle.munged_files.specs.Ending.{ending_by}
use Rattle.munged_run.specs.Serve.{by_options, no_options}
use Rattle.munged_run.proofs.CheckLemmas.{no_options_by}
use Rattle.munged_run.proofs.serve.run_serve.Goals as goal

pub returns-in-Ok-read-clause-came : goal.returns-in-Ok-read-clause-came
returns-in-Ok-read-clause-came g c =
    let accepted = rw c.deref.ensures.value at c.in-Ok-read.ensures.accepted in
    let said = rw c.deref.ensures.value at c.in-Ok-read.ensures.said in
    record {
      how = _;
      came_to = by_options c.in-Ok-read.options
          (record {
            bytes = c.in-Ok.bytes.items;
            read = c.in-Ok.ensures.read;
            accepted = accepted;
            said_is = said;
          })
          (rw (← c.end_of.ensures.same, c.in-Ok.ensures.kept) at c.serve_by-ended.ensures.by);
      number_is = c.end_of.ensures.status ∙ c.end-status.ensures.status;
      said = c.end-status.ensures.says;
    }

pub returns-clause-came : goal.returns-clause-came
returns-clause-came g c =
    let first = rw c.deref.ensures.value at c.in-Err-read.ensures.refused in
    record {
      how = ending_by c.in-Err-read.refused;
      came_to = no_options refl refl (no_options_by _ _ c.in-Ok.bytes.items c.in-Err-read.refused
          c.in-Ok.ensures.read first) (ap (option_map _) c.unserved-in-Err-read.ensures.none);
      number_is = c.unserved-in-Err-read.ensures.status
          ∙ rw c.by.ensures at c.end-in-Err-read.ensures.status;
      said = rw c.by.ensures at c.end-in-Err-read.ensures.says;
    }
