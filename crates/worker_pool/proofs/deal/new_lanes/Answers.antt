use Rattle.std.proofs.Common.{◌≡◌, List, [], get_or, length, sym, subst, rules}
use Rattle.worker_pool.specs.Dealing.{EachNew, IsNew}
use Rattle.worker_pool.specs.Lanes.{IsFresh, dice_after}
use Rattle.worker_pool.specs.declared.lane.Lane.{Lane}
use Rattle.worker_pool.proofs.Deals.{new_more}
use Rattle.worker_pool.proofs.deal.new_lanes.Goals as goal

pub loop-seed-preserved : goal.loop-seed-preserved
loop-seed-preserved g c =
    let gate = c.args.gate.now in
    let seeds = c.args.seeds.now in
    let lanes : List (Lane g.row.L.Denot g.row.C.Denot) = c.loop-seed.lanes.items in
    let new : Lane g.row.L.Denot g.row.C.Denot = record {
      pass = c.in_ok-pass.pass;
      dice = c.new.result;
      tasks = c.new-in-loop-seed.result;
      done = c.new-in-loop-seed-2.result;
    } in
    let fresh : IsFresh gate new.pass = record { of_gate = search rules; alone = search rules; share = search rules; seen = search rules } in
    let is : IsNew gate (get_or seeds (length lanes) []) new = record {
      fresh = fresh;
      dice_is = subst (λ n. c.new.result ≡ dice_after (get_or seeds n []) 0) (sym c.loop-seed.invariant.count) c.new.ensures;
      no_tasks = c.new-in-loop-seed.ensures.items;
      nothing_done = c.new-in-loop-seed-2.ensures.items;
    } in
    record {
      of_gate = search rules;
      alone = search rules;
      spare = search rules;
      share = search rules;
      seen = search rules;
      count = search rules;
      lanes = subst (EachNew gate seeds) (sym c.in_ok-push.ensures.items) (new_more gate seeds lanes new c.loop-seed.invariant.lanes is);
    }
