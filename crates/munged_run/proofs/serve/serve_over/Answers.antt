use Rattle.std.proofs.Common.{refl, ap, option_map}
use Rattle.munged_run.specs.Serve.{opened, unopened}
use Rattle.munged_run.proofs.serve.serve_over.Goals as goal

pub returns-in-Ok-clause-over : goal.returns-in-Ok-clause-over
returns-in-Ok-clause-over g c = λ made.
    opened c.in-Ok.posts.items (rw c.sockets.ensures.same at c.in-Ok.ensures.opened)
    (c.serve_at.ensures.at made)

pub returns-in-Err-clause-over : goal.returns-in-Err-clause-over
returns-in-Err-clause-over g c = λ made.
    unopened refl refl
    (rw c.unserved.ensures.ending (rw c.sockets.ensures.same at c.in-Err.ensures.unopened))
    (ap (option_map _) c.unserved.ensures.none)
