use Rattle.worker_pool.proofs.Seats.{seat_more, seat_none}
use Rattle.worker_pool.proofs.desk.serve_queue.Goals as goal

pub loop-init : goal.loop-init
loop-init g c = seat_none _ c.args.shared.now.world.now c.args.shared.now.gate.now c.args.shared.now.queue.now c.args.seat.now c.requires

pub loop-preserved : goal.loop-preserved
loop-preserved g c =
    seat_more _ c.args.shared.now.world.now c.args.shared.now.gate.now c.args.shared.now.queue.now c.args.seat.now c.loop.seat _
    c.in-Some-take.taken c.requires c.loop.invariant c.take.ensures.pass.of_queue c.in-Some-take.ensures.taken c.handle.ensures.handles
