use Rattle.std.proofs.Common.{refl, arith}
use Rattle.worker_pool.specs.declared.desk.Desk.{Desk}
use Rattle.worker_pool.proofs.Closings.{as_many, lasts_single}
use Rattle.worker_pool.proofs.Daemons.{daemon_ran}
use Rattle.worker_pool.proofs.daemon.daemon_pool.Goals as goal

pub meet_desks-all-requires-clause-desks : goal.meet_desks-all-requires-clause-desks
meet_desks-all-requires-clause-desks g c κs within =
    lasts_single _ c.args.world.now c.in_ok-gate.field-0.gate _ c.in_ok-desks.desks.items c.work.new.ended_desks.items c.work.new.left.items
    c.in_ok-desks.ensures.desks c.in_ok-work.ensures.worked.closed

pub close-closed-requires-clause-whole : goal.close-closed-requires-clause-whole
close-closed-requires-clause-whole g c κs within =
    let met = c.meet_desks-all.ensures.share in
    let worked = c.in_ok-work.ensures.count in
    let desks = as_many (λ (d : Desk g.row.C.Denot g.row.B.Denot). d.dice.seed) c.in_ok-desks.desks.items c.args.seeds.items c.in_ok-desks.ensures.seeds in
    let passes = c.in_ok-gate.ensures.passes in
    let workers = c.len-workers.ensures in omega (arith, c.args.seeds.ok.0)

pub let_out-requires-clause-room : goal.let_out-requires-clause-room
let_out-requires-clause-room g c =
    let few = c.in_ok-work.ensures.few in
    let line = c.in_ok-line.ensures in
    let left = c.in_ok-left.ensures in omega (arith, c.work.new.left.ok.0, left.capacity, left.len)

pub returns : goal.returns
returns g c = record {
  ran = λ made. daemon_ran _ _ _ _ c.in_ok-gate.field-0.gate c.in_ok-desks.desks.items c.work.new.ended_desks.items c.work.new.left.items
      c.let_out.new.left.items _ c.work.new.purger c.meet_desks-all.result (record {
        made = made;
        ticked = c.in_ok-work.ensures.purger;
        worked = c.in_ok-work.ensures.worked;
        seeds = c.in_ok-desks.ensures.seeds;
        clocks = c.in_ok-desks.ensures.clocks;
        purge_clock = refl;
        purge_clock' = refl;
        numbers = c.meet_desks-all.ensures.numbers;
        once_each = c.meet_desks-all.ensures.once;
        home_met = c.meet_desks-all.ensures.home;
        met = c.meet_desks-all.ensures.desks;
        clocks' = c.meet_desks-all.ensures.clocks;
        books' = c.meet_desks-all.ensures.books;
        counted = c.meet_desks-all.ensures.tally;
        worn_is = c.meet_desks-all.ensures.worn;
        purges_are = refl;
        missed_is = refl;
        failed_is = refl;
        entries_is = c.close-closed.ensures.length;
        stands = c.close-closed.ensures.stands;
        made_by_these = c.close-closed.ensures.made;
        once = c.close-closed.ensures.once;
        highest = (let h = c.close-closed.ensures.highest in let s = c.in_ok-gate.ensures.start in omega arith);
        small = omega arith;
        left_are = c.let_out.ensures;
      });
  untouched = tt;
}
