use Rattle.worker_pool.specs.Cases.{link_sight}
use Rattle.worker_pool.specs.Desks.{desk_sight}
use Rattle.worker_pool.specs.Seats.{HasServedSeat}
use Rattle.worker_pool.proofs.desk.serve_queue.Given as goal

abbrev pub invariant-loop : goal.invariant-loop
invariant-loop g l =
    HasServedSeat (desk_sight (link_sight g.L.Source.left g.L.Source.ends g.L.Sink.taken g.L.Link.rings g.L.Source.read_faults g.L.Sink.write_faults)
    g.C.Clock.readings g.C.Clock.last_reading g.C.Clock.given g.C.Clock.clock_faults g.B.Book.kept)
    l.shared.world.now l.shared.queue.now l.fn.seat l.seat
