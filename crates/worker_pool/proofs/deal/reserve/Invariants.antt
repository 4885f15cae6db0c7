use Rattle.std.proofs.Common.{◌≡◌, ◌≤◌, ◌<◌, ℕ, slice_index_or}
use Rattle.worker_pool.specs.Dealing.{Reserved}
use Rattle.worker_pool.specs.declared.lane.Lane.{Lane}
use Rattle.worker_pool.proofs.deal.reserve.Given as goal

abbrev pub invariant-loop-lane : goal.invariant-loop-lane
invariant-loop-lane g l = record {
  behind : (k : ℕ) (d : Lane g.row.L.Denot g.row.C.Denot) → k < l.lane-index → Reserved (slice_index_or l.fn.lanes k d) (slice_index_or l.lanes k d);
  ahead : (k : ℕ) (d : Lane g.row.L.Denot g.row.C.Denot) → l.lane-index ≤ k → slice_index_or l.lanes k d ≡ slice_index_or l.fn.lanes k d;
}
