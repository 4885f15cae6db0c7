use Rattle.std.proofs.Common.{◌≡◌, ◌+◌, [], ◌∷◌, length}
use Rattle.worker_pool.specs.Dealing.{EachNew}
use Rattle.worker_pool.proofs.deal.new_lanes.Given as goal

abbrev pub invariant-loop-seed : goal.invariant-loop-seed
invariant-loop-seed g l = record {
  of_gate : l.home.gate ≡ l.gate;
  alone : l.home.numbers ≡ l.home.number ∷ [];
  spare : l.home.spare + l.seed-index ≡ length l.seeds;
  share : l.home.share ≡ l.home.spare + 1;
  seen : l.home.seen ≡ [];
  count : length l.lanes.items ≡ l.seed-index;
  lanes : EachNew l.gate l.seeds l.lanes.items;
}
