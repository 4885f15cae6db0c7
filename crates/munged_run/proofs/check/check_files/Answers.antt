use Rattle.std.proofs.Common.{refl}
use Rattle.munged_run.specs.Check.{accepted_text, refused_file, unprinted}
use Rattle.munged_run.proofs.CheckLemmas.{proper_front}
use Rattle.munged_run.proofs.check.check_files.Goals as goal

pub returns-in-Err-clause-checked : goal.returns-in-Err-clause-checked
returns-in-Err-clause-checked g c = refused_file refl c.in-Err.ensures.refused

pub returns-in-Failed-clause-checked : goal.returns-in-Failed-clause-checked
returns-in-Failed-clause-checked g c =
    unprinted c.in-Ok.ensures.accepted _
    (proper_front c.in-Failed.field-0 accepted_text c.in-Failed.ensures.below)
    c.in-Failed.ensures.appended refl
