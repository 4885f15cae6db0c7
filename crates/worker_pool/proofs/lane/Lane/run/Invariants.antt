use Rattle.worker_pool.specs.Lanes.{Running}
use Rattle.worker_pool.specs.Work.{sight_of}
use Rattle.worker_pool.proofs.lane.Lane.run.Given as goal

abbrev pub invariant-loop-task : goal.invariant-loop-task
invariant-loop-task g l =
    Running (sight_of g.L.Source.left g.L.Source.ends g.L.Sink.taken g.L.Link.rings g.L.Source.read_faults g.L.Sink.write_faults
    g.C.Clock.readings g.C.Clock.last_reading g.C.Clock.given g.C.Clock.clock_faults) l.world l.fn.self l.self

abbrev pub decreases-loop-task : goal.decreases-loop-task
decreases-loop-task g l = goal.left-loop-task g l
