use Rattle.std.proofs.Common.{◌≤◌, ◌+◌, length, vec_len, vec_capacity}
use Rattle.worker_pool.specs.Joining.{EachFinished, Joined, Meeting}
use Rattle.worker_pool.specs.Work.{Work}
use Rattle.worker_pool.proofs.pool.meet_all.Given as goal

abbrev pub invariant-loop-lane : goal.invariant-loop-lane
invariant-loop-lane g l = record {
  meeting : Meeting l.gate (length l.fn.lanes.items) l.lanes.items l.all l.batches.items;
  room : vec_len l.batches + vec_len l.lanes ≤ vec_capacity l.batches;
  joined : (work : Work g.row.L.Denot g.row.C.Denot) → EachFinished work (length l.fn.lanes.items) l.fn.lanes.items
      → EachFinished work (length l.fn.lanes.items) l.lanes.items × Joined work (length l.fn.lanes.items) (length l.lanes.items) l.all l.batches.items;
}

abbrev pub decreases-loop-lane : goal.decreases-loop-lane
decreases-loop-lane g l = goal.left-loop-lane g l
