use Rattle.worker_pool.proofs.Queues.{takes, learns}
use Rattle.worker_pool.proofs.moves.take.Goals as goal

pub pop_as-requires-clause-rule : goal.pop_as-requires-clause-rule
pop_as-requires-clause-rule g c = (takes _ _ c.loop.invariant.has_parts.some_part, learns _ _)
