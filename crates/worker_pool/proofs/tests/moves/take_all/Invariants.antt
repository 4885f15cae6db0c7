use Rattle.worker_pool.specs.Holders.{HasParts}
use Rattle.worker_pool.proofs.tests.moves.take_all.Given as goal

abbrev pub invariant-loop : goal.invariant-loop
invariant-loop g l = HasParts l.queue l.pass
