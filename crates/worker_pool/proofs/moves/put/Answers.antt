use Rattle.worker_pool.proofs.Queues.{puts, learns}
use Rattle.worker_pool.proofs.moves.put.Goals as goal

pub push_as-requires-clause-rule : goal.push_as-requires-clause-rule
push_as-requires-clause-rule g c = (puts _ _ _ _ c.loop.invariant.has_parts.some_part, learns _ _)
