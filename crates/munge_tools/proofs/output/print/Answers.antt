use Rattle.munge_tools.proofs.OutputLemmas.{cut_at}
use Rattle.munge_tools.proofs.output.print.Goals as goal

pub returns-in-Failed-clause-cut : goal.returns-in-Failed-clause-cut
returns-in-Failed-clause-cut g c =
    cut_at c.in-Failed.field-0 c.args.text.now _ _ c.in-Failed.ensures.below c.in-Failed.ensures.appended
