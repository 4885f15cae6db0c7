-- What a worker is before and after its run.
use Rattle.std.specs.Prelude.{◌≡◌, ℕ, ◌+◌, ◌*◌, ◌≤◌, ◌<◌, List, [], ◌∷◌, ◌++◌, length, map, reverse, slice_index_or, vec_len, vec_capacity}
use Rattle.std.specs.List.{All, slice_get}
use Rattle.std.specs.declared.option.Option.TheVariants.{Some}
use Rattle.cred_seal.specs.Dice.{DiceState}
use Rattle.decode_rules.specs.declared.world.World.{World}
use Rattle.replay_gate.specs.PassState.{GateId, PassState}
use Rattle.session_core.specs.OnGate.{PassGoesOn}
use Rattle.worker_pool.specs.Drawing.{AreBySix, drawn_of}
use Rattle.worker_pool.specs.Standing.{Worked}
use Rattle.worker_pool.specs.Work.{IsMade, Sight, Work, seed_of, work_of}
use Rattle.worker_pool.specs.declared.job.Done.{Done}
use Rattle.worker_pool.specs.declared.job.Job.{Job}
use Rattle.worker_pool.specs.declared.lane.Lane.{Lane}
use Rattle.worker_pool.specs.declared.lane.Task.{Task}

-- the numbers of the tasks, the next one first
abbrev pub to_come : {L C : Type 0} → List (Task L C) → List ℕ
to_come tasks = reverse (map (λ t. t.number) tasks)

-- the numbers of the jobs that are done
abbrev pub numbers_of : {L C : Type 0} → List (Done L C) → List ℕ
numbers_of done = map (λ d. d.job) done

-- the task is one of the jobs, and is served with this seed
pub record IsTaskOf {L C : Type 0} (work : Work L C) (seed : List ℕ) (task : Task L C)
    : Type 0 where
  pub job_is : slice_get work.jobs task.number ≡ Some task.job
  pub seed_is : seed_of work task.number ≡ seed

-- a pass that has only its own number, and has seen nothing
pub record IsFresh (gate : GateId) (pass : PassState) : Type 0 where
  pub of_gate : pass.gate ≡ gate
  pub alone : pass.numbers ≡ pass.number ∷ []
  pub share : pass.share ≡ 1
  pub seen : pass.seen ≡ []

-- a worker that has not begun, with room for what comes of its tasks
pub record IsReady {L C : Type 0} (gate : GateId) (lane : Lane L C) : Type 0 where
  pub fresh : IsFresh gate lane.pass
  pub none_drawn : lane.dice.place ≡ 0
  pub nothing_done : lane.done.items ≡ []
  pub room : vec_len lane.done + vec_len lane.tasks ≤ vec_capacity lane.done

-- a worker has served all its tasks
pub record HasRun {L C : Type 0} (sight : Sight L C) (world : World) (old new : Lane L C)
    : Type 0 where
  pub gone_on : PassGoesOn old.pass new.pass
  pub in_order : numbers_of new.done.items ≡ to_come old.tasks.items
  pub by_six : AreBySix (drawn_of new.done.items)
  pub worked : IsMade world → (seeds : List (List ℕ)) (jobs : List (Job L C)) →
      let work = work_of sight world seeds jobs in
      All (IsTaskOf work old.dice.seed) old.tasks.items
      → Worked work new.pass.number new.pass.seen new.pass.highest new.done.items

abbrev pub EachRan : {L C : Type 0} → Sight L C → World → (old new : List (Lane L C)) → Type 0
EachRan {L} {C} sight world old new =
    (k : ℕ) (d : Lane L C) → k < length old
    → HasRun sight world (slice_index_or old k d) (slice_index_or new k d)

-- the dice of a seed after so many draws
abbrev pub dice_after : (seed : List ℕ) → (count : ℕ) → DiceState
dice_after seed count = record { seed = seed; place = 6 * count }

-- a worker in its run: what it has done, and what is to come
pub record Running {L C : Type 0} (sight : Sight L C) (world : World) (first now : Lane L C)
    : Type 0 where
  pub gone_on : PassGoesOn first.pass now.pass
  pub in_order : numbers_of now.done.items ++ to_come now.tasks.items ≡ to_come first.tasks.items
  pub room : vec_len now.done + vec_len now.tasks ≤ vec_capacity now.done
  pub dice_is : now.dice ≡ dice_after first.dice.seed (length (drawn_of now.done.items))
  pub by_six : AreBySix (drawn_of now.done.items)
  pub worked : IsMade world → (seeds : List (List ℕ)) (jobs : List (Job L C)) →
      let work = work_of sight world seeds jobs in
      All (IsTaskOf work first.dice.seed) first.tasks.items
      → Worked work now.pass.number now.pass.seen now.pass.highest now.done.items
      × All (IsTaskOf work first.dice.seed) now.tasks.items
