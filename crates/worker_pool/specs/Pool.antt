-- What a pool promises.
use Rattle.std.specs.Prelude.{◌≡◌, ℕ, ◌<◌, ◌-◌, nat_eq, Bool, false, List, length, slice_index_or}
use Rattle.std.specs.List.{All, IsDistinct, count_by, range_with_len, sum_by}
use Rattle.std.specs.declared.option.Option.{Option}
use Rattle.std.specs.declared.option.Option.TheVariants.{None, Some}
use Rattle.munge_types.specs.History.{accepted}
use Rattle.munge_types.specs.Pair.{pair_eq}
use Rattle.munge_types.specs.StandsFor.{Remembered, Stands}
use Rattle.munge_types.specs.declared.history.Event.{Event}
use Rattle.munge_types.specs.declared.history.Verdict.TheVariants.{Accepted, Expired, Replayed}
use Rattle.session_core.specs.declared.served.ServeEnd.{ServeEnd}
use Rattle.session_core.specs.declared.served.ServeEnd.TheVariants as how
use Rattle.worker_pool.specs.Drawing.{AreBySix, done_by, drawn_of}
use Rattle.worker_pool.specs.Lanes.{numbers_of}
use Rattle.worker_pool.specs.Standing.{HasServed}
use Rattle.worker_pool.specs.Tally.{IsTallyOf, tells, tells_look_up}
use Rattle.worker_pool.specs.Work.{Work}
use Rattle.worker_pool.specs.declared.job.Done.{Done}
use Rattle.worker_pool.specs.declared.pool.Batch.{Batch}
use Rattle.worker_pool.specs.declared.tally.Tally.{Tally}

-- the job's entry is at this place
abbrev pub is_at : (place : ℕ) → (told : Option ℕ) → Bool
is_at place None = false
is_at place (Some other) = nat_eq place other

-- the gate was not found worn
abbrev pub IsNotWorn : ServeEnd → Type 0
IsNotWorn (how.Worn ticket) = ⊥
IsNotWorn how.Done = Unit {0}
IsNotWorn how.Stopped = Unit {0}
IsNotWorn how.Quiet = Unit {0}
IsNotWorn how.ReadFault = Unit {0}
IsNotWorn how.WriteFault = Unit {0}
IsNotWorn how.ClockFault = Unit {0}
IsNotWorn how.Malformed = Unit {0}
IsNotWorn how.NoMemory = Unit {0}

-- what is left of a pool: what came of its jobs, the tally, how many entries its gate's history
-- has, and what its state remembers
pub record Left (L C : Type 0) : Type 0 where
  pub done : List (Done L C)
  pub tally : Tally
  pub entries : ℕ
  pub state : Remembered

abbrev pub left_of : {L C : Type 0} → (done : List (Done L C)) → Tally → (entries : ℕ)
    → Remembered → Left L C
left_of done tally entries state =
    record { done = done; tally = tally; entries = entries; state = state }

-- The work is done, on one gate with this closing history.
pub record PoolRan {L C : Type 0} (work : Work L C) (left : Left L C) : Type 0 where
  pub history : List Event
  pub entries_is : left.entries ≡ length history
  pub stands : Stands left.state history
  -- no pair was accepted twice
  pub once : IsDistinct pair_eq (accepted history)
  -- each job once, in order
  pub in_order : numbers_of left.done ≡ range_with_len 0 (length work.jobs)
  -- each job was served, as its connection and its clock were given, on the closing history
  pub each : All (HasServed work history left.entries) left.done
  -- each entry is just one job's
  pub made : (place : ℕ) → place < length history
      → count_by (λ d. is_at place d.served.place) left.done ≡ 1
  -- a worker's jobs drew at the places 0, 6, 12 and so on, in order
  pub drawn : (worker : ℕ) → worker < length work.seeds
      → AreBySix (drawn_of (done_by worker (length work.seeds) left.done))
  -- no job found the gate worn
  pub not_worn : All (λ d. IsNotWorn d.served.how) left.done
  pub tallied : IsTallyOf history left.tally

-- what came of so many jobs, gathered from the batches in the order of the jobs
pub record Gathered {L C : Type 0} (count : ℕ) (batches : List (Batch L C))
    (done : List (Done L C)) : Type 0 where
  pub in_order : numbers_of done ≡ range_with_len 0 count
  pub each : (work : Work L C) (history : List Event) (bound : ℕ)
      → All (λ b. All (HasServed work history bound) b.done.items) batches
      → All (HasServed work history bound) done
  pub weighs : (weight : Done L C → ℕ)
      → sum_by weight done ≡ sum_by (λ b. sum_by weight b.done.items) batches
  pub by_worker : (k : ℕ) (e : Batch L C) → k < length batches
      → done_by k (length batches) done
      ≡ (slice_index_or batches (length batches - 1 - k) e).done.items

-- the tally counts what is told of the jobs
pub record Tallies {L C : Type 0} (done : List (Done L C)) (tally : Tally) : Type 0 where
  pub presented : tally.presented
      ≡ count_by (λ d. tells_look_up d.served.place d.served.rule) done
  pub accepted : tally.accepted
      ≡ count_by (λ d. tells Accepted d.served.place d.served.rule) done
  pub replayed : tally.replayed
      ≡ count_by (λ d. tells Replayed d.served.place d.served.rule) done
  pub expired : tally.expired
      ≡ count_by (λ d. tells Expired d.served.place d.served.rule) done
