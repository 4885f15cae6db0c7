-- What a pool is given to do.
use Rattle.std.specs.Prelude.{ℕ, ◌%◌, List, [], length, slice_index_or}
use Rattle.std.specs.declared.option.Option.{Option}
use Rattle.decode_rules.specs.Terms.{IsMadeOf, WorldFiles}
use Rattle.decode_rules.specs.declared.world.World.{World}
use Rattle.session_core.specs.Causes.{Faults, faults_of}
use Rattle.session_core.specs.Connection.{Connection, Timing, connection_of, timing_of}
use Rattle.session_core.specs.Things.{input_of}
use Rattle.worker_pool.specs.declared.job.Job.{Job}

-- how contracts see connections and clocks of these types
pub record Sight (L C : Type 0) : Type 0 where
  pub connection : L → Connection
  pub timing : C → Timing
  pub faults : L → C → Faults

abbrev pub sight_of : {L C : Type 0} → (left : L → Option (List ℕ)) → (ends : L → ℕ)
    → (taken : L → Option (List ℕ)) → (rings read_faults write_faults : L → ℕ)
    → (readings : C → Option (List ℕ)) → (last given clock_faults : C → ℕ) → Sight L C
sight_of left ends taken rings read_faults write_faults readings last given clock_faults =
    record {
      connection = λ conn.
          connection_of (input_of (left conn) (ends conn)) (taken conn) (rings conn);
      timing = λ clock. timing_of (readings clock) (last clock) (given clock);
      faults = λ conn clock. faults_of (read_faults conn) (write_faults conn) (clock_faults clock);
    }

-- What a pool works on: how contracts see its connections and its clocks, the world, a seed for
-- each of its workers, and the jobs.
pub record Work (L C : Type 0) : Type 0 where
  pub sight : Sight L C
  pub world : World
  pub seeds : List (List ℕ)
  pub jobs : List (Job L C)

abbrev pub work_of : {L C : Type 0} → Sight L C → World → (seeds : List (List ℕ))
    → (jobs : List (Job L C)) → Work L C
work_of sight world seeds jobs =
    record { sight = sight; world = world; seeds = seeds; jobs = jobs }

-- the seed of the worker that serves the job of this number
abbrev pub seed_of : {L C : Type 0} → Work L C → (number : ℕ) → List ℕ
seed_of work number = slice_index_or work.seeds (number % length work.seeds) []

-- the world is made of some three files
pub record IsMade (world : World) : Type 0 where
  pub files : WorldFiles
  pub made : IsMadeOf world files
