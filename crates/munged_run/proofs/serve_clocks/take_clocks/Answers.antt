use Rattle.std.proofs.Common.{rules, arith}
use Rattle.worker_pool.specs.Purging.{clock_sight}
use Rattle.munged_run.proofs.ClockLemmas.{clocks_next}
use Rattle.munged_run.proofs.serve_clocks.take_clocks.Goals as goal

pub clocks-preserved : goal.clocks-preserved
clocks-preserved g c =
    let so = c.clocks.invariant in
    let one = c.one.ensures in
    record {
      taken = clocks_next (clock_sight g.C.One.Clock.readings g.C.One.Clock.last_reading
          g.C.One.Clock.given g.C.One.Clock.clock_faults) c.clocks.taken.items _ c.one.result _
          (g.C.Clocks.clocks c.clocks.clocks) _ so.taken
          (record { last = one.last; given = one.given; faults = one.faults }) one.first
          c.push_reserved.ensures.items;
      count = search rules;
      room = omega (arith, so.room, c.push_reserved.ensures.capacity);
    }
