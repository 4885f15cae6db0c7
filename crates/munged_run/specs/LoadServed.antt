-- What serving a load comes to.
use Rattle.std.specs.Prelude.{◌≡◌, ℕ, ◌<◌, ◌*◌, ◌/◌, Bool, true, false, nat_eq, List, [], ◌∷◌, ◌++◌, length, map, replicate, slice_get}
use Rattle.std.specs.List.{All, IsDistinct, count_by, list_any, range_with_len}
use Rattle.std.specs.declared.option.Option.TheVariants.{Some}
use Rattle.munge_types.specs.History.{accepted}
use Rattle.munge_types.specs.Live.{live}
use Rattle.munge_types.specs.Pair.{pair_eq}
use Rattle.munge_types.specs.declared.history.Event.{Event}
use Rattle.munge_types.specs.declared.history.Event.TheVariants.{Admit, Purge}
use Rattle.cred_open.specs.Credential.{pair_of}
use Rattle.decode_rules.specs.Terms.{terms_of}
use Rattle.load_maker.specs.Load.{IsLoad, files_of}
use Rattle.load_maker.specs.Presented.{IsReadyUntil, expiry_at}
use Rattle.load_maker.specs.declared.making.Load.{Load}
use Rattle.session_core.specs.declared.served.ServeEnd.{ServeEnd}
use Rattle.session_core.specs.declared.served.ServeEnd.TheVariants as how
use Rattle.worker_pool.specs.Pool.{Left, PoolRan}
use Rattle.worker_pool.specs.Tally.{IsTallyOf}
use Rattle.worker_pool.specs.Work.{work_of}
use Rattle.worker_pool.specs.declared.job.Job.{Job}
use Rattle.worker_pool.specs.declared.tally.Tally.{Tally}
use Rattle.munged_run.specs.LoadJobs.{AreJobsOf, load_sight}
use Rattle.munged_run.specs.LoadLink.{LinkState}
use Rattle.munged_run.specs.declared.exercise_words.AskedExercise.{AskedExercise}
use Rattle.munged_run.specs.declared.load.clock.LoadClock.{LoadClock}

-- the seeds of so many workers: that of worker w is 32 bytes of value w
abbrev pub seeds_of : (workers : ℕ) → List (List ℕ)
seeds_of workers = map (λ worker. replicate 32 worker) (range_with_len 0 workers)

-- the job was answered in full, or ended by want of memory
abbrev pub EndsWell : ServeEnd → Type 0
EndsWell how.Done = Unit {0}
EndsWell how.NoMemory = Unit {0}
EndsWell how.Stopped = ⊥
EndsWell how.Quiet = ⊥
EndsWell how.ReadFault = ⊥
EndsWell how.WriteFault = ⊥
EndsWell how.ClockFault = ⊥
EndsWell how.Malformed = ⊥
EndsWell (how.Worn ticket) = ⊥

-- it ended by want of memory
abbrev pub wants_memory : ServeEnd → Bool
wants_memory how.NoMemory = true
wants_memory how.Done = false
wants_memory how.Stopped = false
wants_memory how.Quiet = false
wants_memory how.ReadFault = false
wants_memory how.WriteFault = false
wants_memory how.ClockFault = false
wants_memory how.Malformed = false
wants_memory (how.Worn ticket) = false

-- A load was served by workers on one gate, and then purged: this is the closing history, with its
-- tally and how many of its pairs are live, and `wanted` says that a job wanted memory.
pub record IsLoadServed (asked : AskedExercise) (history : List Event) (tally : Tally) (kept : ℕ)
    (wanted : Bool) : Type 0 where
  pub load : Load
  pub load_is : IsLoad asked.credentials asked.number load
  pub jobs : List (Job LinkState LoadClock)
  pub jobs_are : AreJobsOf load jobs
  pub left : Left LinkState LoadClock
  -- what the pool promises of each job and of the gate's history
  pub ran : PoolRan (work_of load_sight load.world (seeds_of asked.workers) jobs) left
  -- the closing history is that one, and then one purge
  pub closing : history ≡ ran.history ++ Purge 0 load.last ∷ []
  pub tallied : IsTallyOf history tally
  pub kept_is : kept ≡ live history
  -- no pair was accepted twice
  pub once : IsDistinct pair_eq (accepted history)
  -- every job was answered, or memory was wanted
  pub ends : All (λ done. EndsWell done.served.how) left.done
  pub wanted_is : wanted ≡ list_any (λ done. wants_memory done.served.how) left.done

-- the entry at this place is the look-up of the pair of credential i, at the moment of the load
pub record LooksUp (number : ℕ) (load : Load) (entries : List Event) (i place : ℕ) : Type 0 where
  pub text : List ℕ
  pub text_is : slice_get load.texts.items i ≡ Some text
  pub ready : IsReadyUntil (terms_of load.world load.who (files_of number)) load.moment
      (expiry_at i) text
  pub pass : ℕ
  pub before : List Event
  pub others : List Event
  pub place_is : place ≡ length before
  pub entries_are : let pair = pair_of load.world.settings.max_ttl ready.credential in
      entries ≡ before ++ Admit pass pair load.moment ∷ others

-- The closing history of a load of n credentials: the look-ups of 2 * n jobs, of which job j
-- presents credential j / 2, in whatever order, and then one purge.
pub record IsHistoryOf (n number : ℕ) (history : List Event) : Type 0 where
  pub load : Load
  pub load_is : IsLoad n number load
  pub entries : List Event
  pub history_is : history ≡ entries ++ Purge 0 load.last ∷ []
  -- the places of the jobs' look-ups, in the order of the jobs
  pub places : List ℕ
  pub jobs : length places ≡ 2 * n
  pub each : (j place : ℕ) → slice_get places j ≡ Some place
      → LooksUp number load entries (j / 2) place
  -- each entry is just one job's, and so there are no others
  pub one_each : (place : ℕ) → place < length entries → count_by (nat_eq place) places ≡ 1
  pub no_others : length entries ≡ 2 * n
