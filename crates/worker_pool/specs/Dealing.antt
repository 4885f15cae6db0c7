-- Which worker serves which job.
use Rattle.std.proofs.Common.{zero, suc}
use Rattle.std.specs.Prelude.{◌≡◌, ℕ, ◌+◌, ◌<◌, ◌≤◌, ◌%◌, nat_eq, if◌then◌else◌, List, [], ◌∷◌, ◌++◌, length, slice_index_or, vec_len, vec_capacity}
use Rattle.std.specs.List.{All, slice_get}
use Rattle.std.specs.declared.option.Option.TheVariants.{Some}
use Rattle.replay_gate.specs.PassState.{GateId, PassState}
use Rattle.worker_pool.specs.Lanes.{IsFresh, IsReady, dice_after, to_come}
use Rattle.worker_pool.specs.declared.job.Job.{Job}
use Rattle.worker_pool.specs.declared.lane.Lane.{Lane}
use Rattle.worker_pool.specs.declared.lane.Task.{Task}

-- the numbers below a bound that leave this rest when they are divided by how many workers there
-- are
abbrev pub share_of : (worker workers bound : ℕ) → List ℕ
share_of worker workers zero = []
share_of worker workers (suc n) =
    share_of worker workers n ++ (if nat_eq (n % workers) worker then n ∷ [] else [])

-- a worker with its pass and its seed, without jobs
pub record IsNew {L C : Type 0} (gate : GateId) (seed : List ℕ) (lane : Lane L C) : Type 0 where
  pub fresh : IsFresh gate lane.pass
  pub dice_is : lane.dice ≡ dice_after seed 0
  pub no_tasks : lane.tasks.items ≡ []
  pub nothing_done : lane.done.items ≡ []

abbrev pub EachNew : {L C : Type 0} → GateId → (seeds : List (List ℕ)) → List (Lane L C)
    → Type 0
EachNew {L} {C} gate seeds lanes =
    (k : ℕ) (d : Lane L C) → k < length lanes
    → IsNew gate (slice_index_or seeds k []) (slice_index_or lanes k d)

-- the task is one of these jobs, and this worker's
pub record IsTaskAt {L C : Type 0} (jobs : List (Job L C)) (worker workers : ℕ)
    (task : Task L C) : Type 0 where
  pub job_is : slice_get jobs task.number ≡ Some task.job
  pub worker_is : task.number % workers ≡ worker

-- a worker gets those of the jobs, from this number on, that are its own
pub record Dealt {L C : Type 0} (jobs : List (Job L C)) (worker workers from : ℕ)
    (old new : Lane L C) : Type 0 where
  pub same_pass : new.pass ≡ old.pass
  pub same_dice : new.dice ≡ old.dice
  pub same_done : new.done.items ≡ old.done.items
  pub in_order : share_of worker workers from ++ to_come new.tasks.items
      ≡ share_of worker workers (length jobs)
  pub tasks : All (IsTaskAt jobs worker workers) new.tasks.items

abbrev pub EachDealt : {L C : Type 0} → List (Job L C) → (from : ℕ) → (old new : List (Lane L C))
    → Type 0
EachDealt {L} {C} jobs from old new =
    (k : ℕ) (d : Lane L C) → k < length old
    → Dealt jobs k (length old) from (slice_index_or old k d) (slice_index_or new k d)

-- a worker that is ready to serve its jobs
pub record Loaded {L C : Type 0} (jobs : List (Job L C)) (gate : GateId) (seed : List ℕ)
    (worker workers : ℕ) (lane : Lane L C) : Type 0 where
  pub ready : IsReady gate lane
  pub seed_is : lane.dice.seed ≡ seed
  pub in_order : to_come lane.tasks.items ≡ share_of worker workers (length jobs)
  pub tasks : All (IsTaskAt jobs worker workers) lane.tasks.items

abbrev pub EachLoaded : {L C : Type 0} → List (Job L C) → GateId → (seeds : List (List ℕ))
    → List (Lane L C) → Type 0
EachLoaded {L} {C} jobs gate seeds lanes =
    (k : ℕ) (d : Lane L C) → k < length lanes
    → Loaded jobs gate (slice_index_or seeds k []) k (length lanes) (slice_index_or lanes k d)

-- room was taken for what comes of the tasks
pub record Reserved {L C : Type 0} (old new : Lane L C) : Type 0 where
  pub same_pass : new.pass ≡ old.pass
  pub same_dice : new.dice ≡ old.dice
  pub same_tasks : new.tasks ≡ old.tasks
  pub nothing_done : new.done.items ≡ []
  pub room : vec_len new.done + vec_len new.tasks ≤ vec_capacity new.done

abbrev pub EachReserved : {L C : Type 0} → (old new : List (Lane L C)) → Type 0
EachReserved {L} {C} old new =
    (k : ℕ) (d : Lane L C) → k < length old
    → Reserved (slice_index_or old k d) (slice_index_or new k d)

-- a pass that can give so many numbers away, and is then left with one
pub record IsHome (gate : GateId) (workers : ℕ) (pass : PassState) : Type 0 where
  pub of_gate : pass.gate ≡ gate
  pub alone : pass.numbers ≡ pass.number ∷ []
  pub spare : pass.spare ≡ workers
  pub share : pass.share ≡ workers + 1
  pub seen : pass.seen ≡ []
