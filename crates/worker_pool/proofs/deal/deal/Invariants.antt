use Rattle.std.proofs.Common.{◌≡◌, ◌≤◌, length, take, vec_len}
use Rattle.worker_pool.specs.Dealing.{EachDealt}
use Rattle.worker_pool.proofs.deal.deal.Given as goal

abbrev pub invariant-loop-job : goal.invariant-loop-job
invariant-loop-job g l = record {
  items : l.jobs.items ≡ take (vec_len l.jobs) l.fn.jobs.items;
  within : vec_len l.jobs ≤ length l.fn.jobs.items;
  same_len : length l.lanes ≡ length l.fn.lanes;
  each : EachDealt l.fn.jobs.items (vec_len l.jobs) l.fn.lanes l.lanes;
}

abbrev pub decreases-loop-job : goal.decreases-loop-job
decreases-loop-job g l = vec_len l.jobs
