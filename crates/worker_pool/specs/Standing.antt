-- How jobs stand to a history that their worker has seen.
use Rattle.std.specs.Prelude.{◌≡◌, ℕ, List, ◌∷◌, ◌++◌, length}
use Rattle.std.specs.List.{slice_get, sum_by}
use Rattle.std.specs.declared.option.Option.{Option}
use Rattle.std.specs.declared.option.Option.TheVariants.{None, Some}
use Rattle.munge_types.specs.declared.history.Event.{Event}
use Rattle.decode_rules.specs.Terms.{IsMadeOf, WorldFiles, terms_of}
use Rattle.replay_gate.specs.Makers.{maker}
use Rattle.session_core.specs.Causes.{CausedBy}
use Rattle.session_core.specs.Connection.{TakesReading}
use Rattle.session_core.specs.OnGate.{StandsIn}
use Rattle.session_core.specs.Service.{service_of}
use Rattle.session_core.specs.WholeRequest.{IsComplete}
use Rattle.worker_pool.specs.Account.{Account, at_place}
use Rattle.worker_pool.specs.Entering.{TellsRule}
use Rattle.worker_pool.specs.Work.{Work, seed_of}
use Rattle.worker_pool.specs.declared.job.Done.{Done}
use Rattle.worker_pool.specs.declared.job.Job.{Job}

-- the entry at this place of a history is a pass's, and this rule is told of it
pub record IsEntry (number : ℕ) (history : List Event) (rule : Option ℕ) (place : ℕ)
    : Type 0 where
  pub before : List Event
  pub entry : Event
  pub others : List Event
  pub history_is : history ≡ before ++ entry ∷ others
  pub place_is : place ≡ length before
  pub by : maker entry ≡ number
  pub told : TellsRule before entry rule

-- where there is an entry, it is a pass's
abbrev pub Marks : (number : ℕ) → (history : List Event) → (rule place : Option ℕ) → Type 0
Marks number history rule (Some place) = IsEntry number history rule place
Marks number history rule None = Unit {0}

-- What came of a job, in a history: its connection and its clock, as they were given in, were
-- served with the seed of its worker by the pass that is told, and are handed back.
pub record HasServed {L C : Type 0} (work : Work L C) (history : List Event) (bound : ℕ)
    (done : Done L C) : Type 0 where
  pub job : Job L C
  pub job_is : slice_get work.jobs done.job ≡ Some job
  pub marks : Marks done.pass history done.served.rule done.served.place
  -- for all files that the world is made of
  pub stands : (files : WorldFiles) → IsMadeOf work.world files
      → StandsIn
      (service_of (terms_of work.world job.who files) (seed_of work done.job) done.pass)
      history bound (work.sight.connection job.conn) (work.sight.connection done.conn)
      done.served done.served.place
  pub reading : TakesReading (work.sight.timing job.clock) (work.sight.timing done.clock)
      done.served.moment
  pub caused : CausedBy (work.sight.faults job.conn job.clock)
      (work.sight.faults done.conn done.clock) done.served.how
  -- what no fault can excuse
  pub complete : IsComplete (work.sight.connection job.conn)
      (work.sight.faults job.conn job.clock) (work.sight.faults done.conn done.clock) done.served

abbrev pub place_of : {L C : Type 0} → Done L C → Option ℕ
place_of done = done.served.place

-- the weight of the places of all entries that these jobs made
abbrev pub weigh : {L C : Type 0} → (weight : ℕ → ℕ) → List (Done L C) → ℕ
weigh weight done = sum_by (λ d. at_place weight (place_of d)) done

-- what a worker has done
abbrev pub Worked : {L C : Type 0} → Work L C → (number : ℕ) → (seen : List Event)
    → (bound : ℕ) → List (Done L C) → Type 0
Worked work number seen bound done =
    Account place_of (HasServed work) number seen bound done
