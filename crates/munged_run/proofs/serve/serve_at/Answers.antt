use Rattle.std.proofs.Common.{refl, ap, option_map}
use Rattle.munged_run.specs.Serve.{served, unready}
use Rattle.munged_run.proofs.ServeSaid.{said_behind}
use Rattle.munged_run.proofs.serve.serve_at.Goals as goal

pub returns-in-Err-clause-at : goal.returns-in-Err-clause-at
returns-in-Err-clause-at g c = λ made.
    unready (record { failed = c.in-Err.ensures.failed; cut = c.in-Err.ensures.cut }) refl
    (ap (option_map _) c.unserved.ensures.none) c.unserved.ensures.ending

pub returns-in-Ok-serve_posts-clause-at : goal.returns-in-Ok-serve_posts-clause-at
returns-in-Ok-serve_posts-clause-at g c = λ made.
    served _ (ap (option_map _) c.say_totals.ensures.same) (c.in-Ok-serve_posts.ensures.served made)
    (said_behind _ _ _ _ _ c.in-Ok.ensures.written c.in-Ok.ensures.sound _ _ _ _
    c.say_totals.ensures.said)
