use Rattle.std.proofs.Common.{◌≡◌, List, ◌++◌}
use Rattle.crossbeam_queue.specs.Passes.{view}
use Rattle.worker_pool.specs.Cases.{Case, link_sight, takens}
use Rattle.worker_pool.specs.Desks.{desk_sight}
use Rattle.worker_pool.specs.Drains.{ServesOn}
use Rattle.worker_pool.specs.Holders.{HasParts}
use Rattle.worker_pool.specs.Queue.{ledger}
use Rattle.worker_pool.specs.Single.{IsSingle}
use Rattle.worker_pool.proofs.drain.serve_rest.Given as goal

abbrev pub invariant-loop : goal.invariant-loop
invariant-loop g l = record {
  has_parts : HasParts l.shared.queue.now l.pass;
  single : IsSingle l.shared.gate.now l.desk.pass;
  more : List (Case g.row.L.Denot);
  view_is : view l.pass ≡ ledger (view l.fn.pass).parts (view l.fn.pass).put ((view l.fn.pass).taken ++ takens more);
  serves : ServesOn (desk_sight (link_sight g.L.Source.left g.L.Source.ends g.L.Sink.taken g.L.Link.rings g.L.Source.read_faults g.L.Sink.write_faults)
      g.C.Clock.readings g.C.Clock.last_reading g.C.Clock.given g.C.Clock.clock_faults g.B.Book.kept)
      l.shared.world.now l.shared.gate.now l.fn.desk l.desk more;
}
