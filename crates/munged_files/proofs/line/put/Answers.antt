use Rattle.munged_files.proofs.CutLemmas.{cut_at}
use Rattle.munged_files.proofs.line.put.Goals as goal

pub returns-in-Failed-clause-cut : goal.returns-in-Failed-clause-cut
returns-in-Failed-clause-cut g c =
    cut_at _ _ _ _ (rw c.as_bytes.ensures.value at c.in-Failed.ensures.below)
    (rw c.as_bytes.ensures.value at c.in-Failed.ensures.appended)
