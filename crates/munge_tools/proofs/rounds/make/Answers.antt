use Rattle.munge_tools.specs.Rounds.{unmade}
use Rattle.munge_tools.proofs.rounds.make.Goals as goal

pub returns-in-Err-clause-stopped : goal.returns-in-Err-clause-stopped
returns-in-Err-clause-stopped g c =
    unmade (rw (c.of.ensures, c.in-Ok.ensures.items, c.as_bytes.ensures.value) at c.in-Err.ensures.unheard)
