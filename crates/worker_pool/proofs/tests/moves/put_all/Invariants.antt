use Rattle.worker_pool.specs.Holders.{HasParts}
use Rattle.worker_pool.proofs.tests.moves.put_all.Given as goal

abbrev pub invariant-loop-item : goal.invariant-loop-item
invariant-loop-item g l = HasParts l.queue l.pass
