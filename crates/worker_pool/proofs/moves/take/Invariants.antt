use Rattle.std.proofs.Common.{◌≡◌}
use Rattle.crossbeam_queue.specs.Passes.{view}
use Rattle.worker_pool.specs.Holders.{HasParts}
use Rattle.worker_pool.proofs.moves.take.Given as goal

abbrev pub invariant-loop : goal.invariant-loop
invariant-loop g l = record {
  has_parts : HasParts l.queue l.pass;
  same : view l.pass ≡ view l.fn.pass;
}
