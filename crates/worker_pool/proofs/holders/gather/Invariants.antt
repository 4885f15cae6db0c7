use Rattle.std.proofs.Common.{◌≡◌, ◌≤◌, ◌+◌, ◌++◌, map, reverse, vec_len, vec_capacity}
use Rattle.std.specs.List.{All}
use Rattle.std.specs.Prelude.{sum_by, flat_map}
use Rattle.crossbeam_queue.specs.Passes.{view, IsPassOf}
use Rattle.worker_pool.specs.Holders.{HasParts, put_by, taken_by, parts_by}
use Rattle.worker_pool.proofs.holders.gather.Given as goal

abbrev pub invariant-loop-holder : goal.invariant-loop-holder
invariant-loop-holder g l = record {
  has_parts : HasParts l.queue l.home;
  each : All (λ h. IsPassOf l.queue h.pass) l.holders.items;
  parts : (view l.home).parts + sum_by parts_by (reverse l.holders.items)
      ≡ (view l.fn.home).parts + sum_by parts_by (reverse l.fn.holders.items);
  put : (view l.home).put ++ flat_map put_by (reverse l.holders.items)
      ≡ (view l.fn.home).put ++ flat_map put_by (reverse l.fn.holders.items);
  taken : (view l.home).taken ++ flat_map taken_by (reverse l.holders.items)
      ≡ (view l.fn.home).taken ++ flat_map taken_by (reverse l.fn.holders.items);
  states : l.states.items ++ map (λ h. h.state) (reverse l.holders.items)
      ≡ map (λ h. h.state) (reverse l.fn.holders.items);
  room : vec_len l.states + vec_len l.holders ≤ vec_capacity l.states;
}

abbrev pub decreases-loop-holder : goal.decreases-loop-holder
decreases-loop-holder g l = goal.left-loop-holder g l
