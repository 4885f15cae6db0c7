use Rattle.std.proofs.Common.{[], ◌∷◌, ◌++◌}
use Rattle.crossbeam_queue.specs.Passes.{view}
use Rattle.worker_pool.specs.Cases.{case_of}
use Rattle.worker_pool.proofs.Desks.{single_still}
use Rattle.worker_pool.proofs.Seats.{serves_more, serves_none, view_more, view_none}
use Rattle.worker_pool.proofs.drain.serve_rest.Goals as goal

pub loop-init : goal.loop-init
loop-init g c = record {
  has_parts = c.requires.parts;
  single = c.requires.single;
  more = [];
  view_is = view_none (view c.args.pass.now);
  serves = serves_none _ c.args.shared.now.world.now c.args.shared.now.gate.now c.args.desk.now;
}

pub returns-in-Some-handle-clause-rest : goal.returns-in-Some-handle-clause-rest
returns-in-Some-handle-clause-rest g c =
    let i = c.loop.invariant in
    let q = c.in-Some-take_left.taken in
    let h = c.handle.ensures.handles in record {
      more = i.more ++ case_of q h.kept ∷ [];
      view_is = view_more (view c.args.pass.now) (view c.loop.pass) (view c.take_left.new.pass) i.more (case_of q h.kept) i.view_is
          c.in-Some-take_left.ensures.taken.0;
      serves = serves_more _ c.args.shared.now.world.now c.args.shared.now.gate.now c.args.desk.now c.loop.desk _ i.more q h i.serves;
      stops = c.in-Some-handle.ensures.worn;
    }

pub loop-preserved : goal.loop-preserved
loop-preserved g c =
    let i = c.loop.invariant in
    let q = c.in-Some-take_left.taken in
    let h = c.handle.ensures.handles in record {
      has_parts = c.take_left.ensures.pass;
      single = single_still c.args.shared.now.gate.now c.loop.desk.pass _ i.single h.pass;
      more = i.more ++ case_of q h.kept ∷ [];
      view_is = view_more (view c.args.pass.now) (view c.loop.pass) (view c.take_left.new.pass) i.more (case_of q h.kept) i.view_is
          c.in-Some-take_left.ensures.taken.0;
      serves = serves_more _ c.args.shared.now.world.now c.args.shared.now.gate.now c.args.desk.now c.loop.desk _ i.more q h i.serves;
    }
