use Rattle.std.proofs.lemmas.Result.{IfErr-weaker}
use Rattle.munged_run.specs.Check.{bad_key, bad_map}
use Rattle.munged_run.proofs.check.read_files.Goals as goal

pub returns-in-Ok-clause-refused : goal.returns-in-Ok-clause-refused
returns-in-Ok-clause-refused g c =
    let key = rw c.key.ensures at c.in-Ok.ensures.key in
    let refused = rw (c.in-Ok.ensures.kept, c.passwd.ensures, c.group.ensures)
    at c.check_maps.ensures.refused in
    IfErr-weaker c.check_maps.result _ _ (λ why gives. bad_map key.key key.holds gives) refused

pub returns-in-Err-clause-refused : goal.returns-in-Err-clause-refused
returns-in-Err-clause-refused g c = bad_key (rw c.key.ensures at c.in-Err.ensures.no_key)
