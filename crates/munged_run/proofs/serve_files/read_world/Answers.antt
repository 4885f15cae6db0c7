use Rattle.munged_run.specs.ServeFiles.{bad_key, bad_map, bad_seed}
use Rattle.munged_run.proofs.serve_files.read_world.Goals as goal

pub returns-in-Err-clause-refused : goal.returns-in-Err-clause-refused
returns-in-Err-clause-refused g c = bad_key (rw c.key.ensures at c.in-Err.ensures.no_key)

pub returns-in-Err-read_seeds-clause-refused : goal.returns-in-Err-read_seeds-clause-refused
returns-in-Err-read_seeds-clause-refused g c =
    let key = c.in-Ok.ensures.key in
    bad_seed key.key (rw c.key.ensures at key.holds)
    (rw (c.seed.ensures, c.workers.ensures.same, c.read_key.ensures.kept)
    at c.in-Err-read_seeds.ensures.no_seeds)

pub returns-in-Err-read_maps-clause-refused : goal.returns-in-Err-read_maps-clause-refused
returns-in-Err-read_maps-clause-refused g c =
    let key = c.in-Ok.ensures.key in
    bad_map key.key (rw c.key.ensures at key.holds) c.in-Ok-read_seeds.seeds.items
    (rw (c.seed.ensures, c.workers.ensures.same, c.read_key.ensures.kept)
    at c.in-Ok-read_seeds.ensures.seeds)
    (rw (c.passwd.ensures, c.group.ensures, c.read_seeds.ensures.kept, c.read_key.ensures.kept)
    at c.in-Err-read_maps.ensures.refused)
