use Rattle.std.proofs.Common.{refl, ap, option_map}
use Rattle.munged_run.specs.Serve.{by_files, refused_file}
use Rattle.munged_run.proofs.serve.serve_by.Goals as goal

pub returns-in-Ok-clause-by : goal.returns-in-Ok-clause-by
returns-in-Ok-clause-by g c =
    let read = c.in-Ok.ensures.world in
    by_files c.in-Ok.provided.world c.in-Ok.provided.seeds.items read
    (c.serve_over.ensures.over (record { files = _; made = read.made }))

pub returns-in-Err-clause-by : goal.returns-in-Err-clause-by
returns-in-Err-clause-by g c =
    refused_file refl refl (rw c.unserved.ensures.ending c.in-Err.ensures.refused)
    (ap (option_map _) c.unserved.ensures.none)
