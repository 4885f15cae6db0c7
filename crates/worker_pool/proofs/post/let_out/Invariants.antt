use Rattle.std.proofs.Common.{◌≡◌, ◌+◌, ◌≤◌, ◌++◌, map, reverse, vec_capacity, vec_len}
use Rattle.worker_pool.proofs.post.let_out.Given as goal

abbrev pub invariant-loop-one : goal.invariant-loop-one
invariant-loop-one g l = record {
  room : vec_len l.left + vec_len l.queued ≤ vec_capacity l.left;
  in_order : map (λ q. q.waiting) l.queued.items ++ reverse l.left.items ≡ map (λ q. q.waiting) l.fn.queued.items;
}

abbrev pub decreases-loop-one : goal.decreases-loop-one
decreases-loop-one g l = goal.left-loop-one g l
