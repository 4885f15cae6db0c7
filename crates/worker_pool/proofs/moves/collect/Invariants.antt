use Rattle.std.proofs.Common.{◌≡◌, ◌≤◌, ◌+◌, ◌++◌, length, vec_capacity}
use Rattle.crossbeam_queue.specs.Passes.{view, ruled_capacity}
use Rattle.worker_pool.specs.Queue.{ledger}
use Rattle.worker_pool.specs.Holders.{HasParts}
use Rattle.worker_pool.proofs.moves.collect.Given as goal

abbrev pub invariant-loop : goal.invariant-loop
invariant-loop g l = record {
  has_parts : HasParts l.queue l.pass;
  view_is : view l.pass ≡ ledger (view l.fn.pass).parts (view l.fn.pass).put
      ((view l.fn.pass).taken ++ l.left.items);
  room : ruled_capacity l.queue ≤ vec_capacity l.left;
  few : length l.left.items ≤ l._most;
  most : l._most ≤ ruled_capacity l.queue;
  count : length (view l.fn.pass).put ≡ length (view l.fn.pass).taken + l._most;
}
