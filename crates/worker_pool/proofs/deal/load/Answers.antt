use Rattle.std.proofs.Common.{◌≡◌, List, length, sym, subst, arith}
use Rattle.worker_pool.specs.Dealing.{EachLoaded, EachNew}
use Rattle.worker_pool.specs.declared.lane.Lane.{Lane}
use Rattle.worker_pool.proofs.Deals.{whole_of}
use Rattle.worker_pool.proofs.deal.load.Goals as goal

pub returns-clause-lanes : goal.returns-clause-lanes
returns-clause-lanes g c =
    let gate = c.args.gate.now in
    let seeds = c.args.seeds.now in
    let old : List (Lane g.row.L.Denot g.row.C.Denot) = c.in_ok-lanes.lanes.items in
    let new : List (Lane g.row.L.Denot g.row.C.Denot) = c.deal_all.new.lanes in
    let news : EachNew gate seeds c.deref_mut.result.now = subst (EachNew gate seeds) (sym c.deref_mut.ensures.value) c.in_ok-lanes.ensures.lanes in
    let same : length new ≡ length old = omega (arith, c.deal_all.auto.lanes, c.deref_mut.ensures.len, c.in_ok-lanes.lanes.ok.0) in
    subst (EachLoaded c.args.jobs.items gate seeds) (sym (whole_of c.in_ok-lanes.lanes.len new old same (omega (arith, c.in_ok-lanes.lanes.ok.0))))
    (c.in_ok-deal_all.ensures gate seeds news)
