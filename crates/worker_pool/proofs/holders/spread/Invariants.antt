use Rattle.std.proofs.Common.{◌≡◌, ◌≤◌, ◌+◌, ◌++◌, length, map, reverse, vec_len, vec_capacity}
use Rattle.std.specs.List.{All, range_with_len}
use Rattle.crossbeam_queue.specs.Passes.{view, IsPassOf}
use Rattle.worker_pool.specs.Holders.{IsNewLedger}
use Rattle.worker_pool.proofs.holders.spread.Given as goal

abbrev pub invariant-loop-state : goal.invariant-loop-state
invariant-loop-state g l = record {
  of_queue : IsPassOf l.queue l.home;
  parts : (view l.home).parts + length l.fn.states.items
      ≡ (view l.fn.home).parts + length l.states.items;
  put : (view l.home).put ≡ (view l.fn.home).put;
  taken : (view l.home).taken ≡ (view l.fn.home).taken;
  each : All (IsNewLedger l.queue) l.holders.items;
  states : l.states.items ++ map (λ h. h.state) (reverse l.holders.items) ≡ l.fn.states.items;
  numbers : range_with_len 0 (length l.states.items)
      ++ map (λ h. h.number) (reverse l.holders.items)
      ≡ range_with_len 0 (length l.fn.states.items);
  room : vec_len l.holders + vec_len l.states ≤ vec_capacity l.holders;
  fewer : length l.states.items ≤ length l.fn.states.items;
}

abbrev pub decreases-loop-state : goal.decreases-loop-state
decreases-loop-state g l = goal.left-loop-state g l
