-- What the workers have done together, once their passes have met.
use Rattle.std.specs.Prelude.{◌≡◌, ℕ, ◌+◌, ◌-◌, ◌≤◌, ◌<◌, nat_eq, List, [], ◌∷◌, length, map, slice_index_or}
use Rattle.std.specs.List.{All, AllZip, count_by}
use Rattle.replay_gate.specs.Makers.{IsOf}
use Rattle.replay_gate.specs.PassState.{GateId, PassState}
use Rattle.worker_pool.specs.Dealing.{share_of}
use Rattle.worker_pool.specs.Drawing.{AreBySix, drawn_of}
use Rattle.worker_pool.specs.Lanes.{numbers_of}
use Rattle.worker_pool.specs.Standing.{Worked}
use Rattle.worker_pool.specs.Work.{IsMade, Work}
use Rattle.worker_pool.specs.declared.job.Done.{Done}
use Rattle.worker_pool.specs.declared.lane.Lane.{Lane}
use Rattle.worker_pool.specs.declared.pool.Batch.{Batch}

abbrev pub lists_of : {L C : Type 0} → List (Batch L C) → List (List (Done L C))
lists_of batches = map (λ b. b.done.items) batches

-- each number stands once in the list
abbrev pub OnceEach : List ℕ → Type 0
OnceEach numbers =
    (number : ℕ) → IsOf numbers number → count_by (nat_eq number) numbers ≡ 1

-- each of these numbers has done what stands at its place, and no number is another's
pub record Team {L C : Type 0} (work : Work L C) (pass : PassState)
    (done : List (List (Done L C))) : Type 0 where
  pub each : IsMade work.world
      → AllZip (λ number d. Worked work number pass.seen pass.highest d) pass.numbers done
  pub once : OnceEach pass.numbers

-- a worker's pass, of this gate
pub record HasPass {L C : Type 0} (gate : GateId) (lane : Lane L C) : Type 0 where
  pub of_gate : lane.pass.gate ≡ gate
  pub alone : lane.pass.numbers ≡ lane.pass.number ∷ []
  pub share : lane.pass.share ≡ 1

-- a worker that has served its jobs
pub record Finished {L C : Type 0} (work : Work L C) (worker workers : ℕ) (lane : Lane L C)
    : Type 0 where
  pub in_order : numbers_of lane.done.items ≡ share_of worker workers (length work.jobs)
  pub by_six : AreBySix (drawn_of lane.done.items)
  pub worked : IsMade work.world
      → Worked work lane.pass.number lane.pass.seen lane.pass.highest lane.done.items

abbrev pub EachFinished : {L C : Type 0} → Work L C → (workers : ℕ) → List (Lane L C) → Type 0
EachFinished {L} {C} work workers lanes =
    (k : ℕ) (d : Lane L C) → k < length lanes
    → Finished work k workers (slice_index_or lanes k d)

-- Each of so many workers but the first few has its batch, as far from the end as its lane stood
-- from the front, and of each this holds.
abbrev pub EachBatch : {L C : Type 0} → (Holds : ℕ → Batch L C → Type 0) → (workers left : ℕ)
    → List (Batch L C) → Type 0
EachBatch {L} {C} Holds workers left batches =
    (k : ℕ) (e : Batch L C) → left ≤ k → k < workers
    → Holds k (slice_index_or batches (workers - 1 - k) e)

-- each batch has the numbers that are its worker's, of so many jobs
abbrev pub InOrder : {L C : Type 0} → (count workers left : ℕ) → List (Batch L C) → Type 0
InOrder count workers left batches =
    EachBatch (λ k b. numbers_of b.done.items ≡ share_of k workers count) workers left batches

-- all but so many workers have met
pub record Joined {L C : Type 0} (work : Work L C) (workers left : ℕ) (pass : PassState)
    (batches : List (Batch L C)) : Type 0 where
  pub team : Team work pass ([] ∷ lists_of batches)
  pub in_order : InOrder (length work.jobs) workers left batches
  pub by_six : EachBatch (λ k b. AreBySix (drawn_of b.done.items)) workers left batches

-- the passes of these lanes are still to be met
pub record Meeting {L C : Type 0} (gate : GateId) (workers : ℕ) (lanes : List (Lane L C))
    (pass : PassState) (batches : List (Batch L C)) : Type 0 where
  pub of_gate : pass.gate ≡ gate
  pub share : pass.share + length lanes ≡ workers + 1
  pub count : length batches + length lanes ≡ workers
  pub rest : All (HasPass gate) lanes
