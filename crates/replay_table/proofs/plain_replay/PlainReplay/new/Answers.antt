use Rattle.munge_types.proofs.StandsForLemmas.{StandsFor-empty}
use Rattle.replay_table.proofs.plain_replay.PlainReplay.new.Goals as goal

pub returns-clause-stands : goal.returns-clause-stands
returns-clause-stands c = rw c.new.ensures.items StandsFor-empty
