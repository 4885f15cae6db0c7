use Rattle.std.proofs.Common.{refl, arith}
use Rattle.worker_pool.specs.declared.lane.Lane.{Lane}
use Rattle.worker_pool.proofs.Runs.{goes_on, starts, ends, of_gate}
use Rattle.worker_pool.proofs.lane.Lane.run.Goals as goal

pub loop-task-init : goal.loop-task-init
loop-task-init g c = starts _ c.args.world.now c.args.gate.now c.args.self.now c.requires.ready

pub serve-done-requires : goal.serve-done-requires
serve-done-requires g c = (
  c.type_bounds.send-L,
  (
    c.type_bounds.send-C,
    (
      c.type_bounds.send-R,
      of_gate c.args.gate.now c.args.self.now.pass c.loop-task.self.pass c.requires.ready.fresh c.loop-task.invariant.gone_on,
    ),
  ),
)

pub loop-task-preserved : goal.loop-task-preserved
loop-task-preserved g c =
    let new : Lane g.row.L.Denot g.row.C.Denot = record { pass = c.serve-done.new.pass; dice = c.serve-done.new.dice; tasks = c.pop.new.self; done = c.push_reserved.new.self } in
    goes_on _ c.args.world.now c.args.gate.now c.args.self.now c.loop-task.self new c.in-Some.task c.serve-done.result
    c.serve-done.ensures.pass c.requires.ready.fresh c.loop-task.invariant c.in-Some.ensures.items c.serve-done.ensures.number c.serve-done.ensures.served
    c.serve-done.ensures.draws c.push_reserved.ensures.items (omega (arith, c.loop-task.self.done.ok.0))
    c.in-Some.ensures.cases c.push_reserved.ensures.len c.push_reserved.ensures.capacity

pub returns : goal.returns
returns g c =
    let new : Lane g.row.L.Denot g.row.C.Denot = record {
      pass = c.loop-task.self.pass;
      dice = c.loop-task.self.dice;
      tasks = c.pop.new.self;
      done = c.loop-task.self.done;
    } in
    ends _ c.args.world.now c.args.self.now c.loop-task.self new refl refl
    (omega (arith, c.loop-task.self.tasks.ok.0, c.in_default.ensures.cases)) c.loop-task.invariant
