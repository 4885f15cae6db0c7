use Rattle.std.proofs.Common.{◌≡◌, ◌≤◌, ◌<◌, ◌+◌, ◌-◌, ℕ, List, ◌++◌, get_or, length, reverse, vec_len, vec_capacity}
use Rattle.std.specs.List.{All, sum_by, range_with_len}
use Rattle.munge_types.specs.declared.history.Event.{Event}
use Rattle.worker_pool.specs.Drawing.{done_by}
use Rattle.worker_pool.specs.Joining.{InOrder}
use Rattle.worker_pool.specs.Lanes.{numbers_of}
use Rattle.worker_pool.specs.Standing.{HasServed}
use Rattle.worker_pool.specs.Work.{Work}
use Rattle.worker_pool.specs.declared.job.Done.{Done}
use Rattle.worker_pool.specs.declared.pool.Batch.{Batch}
use Rattle.worker_pool.proofs.pool.gather.Given as goal

abbrev pub invariant-loop-left : goal.invariant-loop-left
invariant-loop-left g l = record {
  same_len : length l.batches ≡ length l.fn.batches;
  workers : l.workers ≡ length l.fn.batches;
  in_order : InOrder l.left (length l.fn.batches) 0 l.batches;
  numbers : range_with_len 0 l.left ++ reverse (numbers_of l.done.items) ≡ range_with_len 0 l.fn.count;
  each : (work : Work g.row.L.Denot g.row.C.Denot) (history : List Event) (bound : ℕ) → All (λ b. All (HasServed work history bound) b.done.items) l.fn.batches
      → All (λ b. All (HasServed work history bound) b.done.items) l.batches × All (HasServed work history bound) l.done.items;
  weighs : (weight : Done g.row.L.Denot g.row.C.Denot → ℕ)
      → sum_by weight l.done.items + sum_by (λ b. sum_by weight b.done.items) l.batches ≡ sum_by (λ b. sum_by weight b.done.items) l.fn.batches;
  by_worker : (k : ℕ) (e : Batch g.row.L.Denot g.row.C.Denot) → k < length l.fn.batches
      → (get_or l.batches (length l.fn.batches - 1 - k) e).done.items ++ reverse (done_by k (length l.fn.batches) l.done.items)
      ≡ (get_or l.fn.batches (length l.fn.batches - 1 - k) e).done.items;
  room : vec_len l.done + l.left ≤ vec_capacity l.done;
}

abbrev pub decreases-loop-left : goal.decreases-loop-left
decreases-loop-left g l = l.left
