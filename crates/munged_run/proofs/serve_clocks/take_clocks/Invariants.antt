use Rattle.std.proofs.Common.{◌≡◌, ◌≤◌, length, vec_capacity}
use Rattle.worker_pool.specs.Purging.{clock_sight}
use Rattle.munged_run.specs.ServeClocks.{ClocksTaken}
use Rattle.munged_run.proofs.serve_clocks.take_clocks.Given as goal

-- the clocks so far
abbrev pub invariant-clocks : goal.invariant-clocks
invariant-clocks g l = record {
  taken : ClocksTaken
      (clock_sight g.C.One.Clock.readings g.C.One.Clock.last_reading g.C.One.Clock.given g.C.One.Clock.clock_faults)
      l.taken.items (g.C.Clocks.clocks l.fn.clocks) (g.C.Clocks.clocks l.clocks);
  count : length l.taken.items ≡ l.counter;
  room : l.count ≤ vec_capacity l.taken;
}
