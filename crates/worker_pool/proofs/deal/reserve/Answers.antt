use Rattle.std.proofs.Common.{List, get_or, refl, arith}
use Rattle.worker_pool.specs.declared.lane.Lane.{Lane}
use Rattle.worker_pool.proofs.Deals.{reserved_ahead, reserved_behind}
use Rattle.worker_pool.proofs.deal.reserve.Goals as goal

pub loop-lane-preserved : goal.loop-lane-preserved
loop-lane-preserved g c =
    let old : List (Lane g.row.L.Denot g.row.C.Denot) = c.args.lanes.now in
    let lanes : List (Lane g.row.L.Denot g.row.C.Denot) = c.loop-lane.lanes in
    let at = c.loop-lane.lane-index in
    let was : Lane g.row.L.Denot g.row.C.Denot = c.lane-item.result in
    let new : Lane g.row.L.Denot g.row.C.Denot = record {
      pass = (get_or lanes at was).pass;
      dice = (get_or lanes at was).dice;
      tasks = (get_or lanes at was).tasks;
      done = c.in_ok-lane.field-0;
    } in
    record {
      behind = reserved_behind old lanes at was new (let t = c.loop-lane-test.true in let a = c.loop-lane.auto in omega arith)
          (record {
            same_pass = refl;
            same_dice = refl;
            same_tasks = refl;
            nothing_done = c.in_ok-lane.ensures.items;
            room = (let a = c.in_ok-lane.ensures.len in let b = c.in_ok-lane.ensures.capacity in let l = c.len.ensures in omega arith);
          })
          c.loop-lane.invariant.behind c.loop-lane.invariant.ahead;
      ahead = reserved_ahead old lanes at new c.loop-lane.invariant.ahead;
    }
