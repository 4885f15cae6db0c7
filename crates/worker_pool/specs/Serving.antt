-- What one job says that was served.
use Rattle.std.specs.Prelude.{◌≡◌, ℕ, List}
use Rattle.decode_rules.specs.Terms.{IsMadeOf, WorldFiles, terms_of}
use Rattle.decode_rules.specs.declared.world.World.{World}
use Rattle.replay_gate.specs.PassState.{PassState}
use Rattle.session_core.specs.Causes.{CausedBy}
use Rattle.session_core.specs.Connection.{TakesReading}
use Rattle.session_core.specs.OnGate.{Serves}
use Rattle.session_core.specs.Service.{service_of}
use Rattle.session_core.specs.WholeRequest.{IsComplete}
use Rattle.worker_pool.specs.Work.{Sight}
use Rattle.worker_pool.specs.declared.job.Done.{Done}
use Rattle.worker_pool.specs.declared.job.Job.{Job}

-- The job was served with words of this seed, and this became of the pass. Its connection and its
-- clock are handed back.
pub record IsServedJob {L C : Type 0} (sight : Sight L C) (world : World) (seed : List ℕ)
    (old new : PassState) (job : Job L C) (done : Done L C) : Type 0 where
  pub pass_is : done.pass ≡ new.number
  -- for all files that the world is made of
  pub serves : (files : WorldFiles) → IsMadeOf world files
      → Serves (service_of (terms_of world job.who files) seed old.number) old new
      (sight.connection job.conn) (sight.connection done.conn)
      done.served done.served.place
  pub reading : TakesReading (sight.timing job.clock) (sight.timing done.clock) done.served.moment
  pub caused : CausedBy (sight.faults job.conn job.clock) (sight.faults done.conn done.clock)
      done.served.how
  pub complete : IsComplete (sight.connection job.conn)
      (sight.faults job.conn job.clock) (sight.faults done.conn done.clock) done.served
