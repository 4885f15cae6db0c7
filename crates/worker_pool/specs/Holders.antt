-- What the holders of the queue's passes know.
use Rattle.std.specs.Prelude.{◌≡◌, ℕ, ◌+◌, ◌<◌, ◌≤◌, List, [], ◌++◌, length, flat_map}
use Rattle.std.specs.List.{sum_by}
use Rattle.std.specs.List.Sorted.{IsPermutation}
use Rattle.std.specs.declared.option.Option.{Option}
use Rattle.std.specs.declared.option.Option.TheVariants.{None, Some}
use Rattle.crossbeam_queue.specs.Passes.{IsPassOf, Pass, view}
use Rattle.crossbeam_queue.specs.declared.array_queue.Doing.{Doing}
use Rattle.crossbeam_queue.specs.declared.array_queue.Slotted.{Slotted}
use Rattle.worker_pool.specs.Queue.{HasTaken, ledger, whole}
use Rattle.worker_pool.specs.declared.holders.Holder.{Holder}
use Rattle.worker_pool.specs.declared.queue.Ledger.{Ledger}

abbrev pub QueuePass : Type 0 → Type 0
QueuePass T = Pass T (Ledger T)

-- what was put by the holder
abbrev pub put_by : {T S : Type 0} → Holder T S → List T
put_by h = (view h.pass).put

-- what was taken by the holder
abbrev pub taken_by : {T S : Type 0} → Holder T S → List T
taken_by h = (view h.pass).taken

abbrev pub parts_by : {T S : Type 0} → Holder T S → ℕ
parts_by h = (view h.pass).parts

abbrev pub HasTakenOrNone : {T : Type 0} → (old : Ledger T) → Option T → (new : Ledger T) → Type 0
HasTakenOrNone old None new = new ≡ old
HasTakenOrNone old (Some item) new = HasTaken old item new

-- where none is left, who has all parts knows that all was taken
abbrev pub HasTakenOrLeft : {T : Type 0} → (old : Ledger T) → Option T → (new : Ledger T) → Type 0
HasTakenOrLeft old None new =
    (new ≡ old) × (old.parts ≡ whole → IsPermutation old.put old.taken)
HasTakenOrLeft old (Some item) new =
    HasTaken old item new × (old.parts ≡ whole → length new.taken ≤ length new.put)

module _ {T Q A : Type 0} (queue : Slotted (Option T) (Doing T (Ledger T)) Q A) where
  -- a pass of this queue with a part
  pub record HasParts (pass : QueuePass T) : Type 0 where
    pub of_queue : IsPassOf queue pass
    pub some_part : 0 < (view pass).parts

  -- a holder whose pass was just made
  pub record IsNewLedger {S : Type 0} (h : Holder T S) : Type 0 where
    pub of_queue : IsPassOf queue h.pass
    pub is_new : view h.pass ≡ ledger 1 [] []

  -- so many parts were handed on
  pub record HasGiven (count : ℕ) (old new : QueuePass T) : Type 0 where
    pub of_queue : IsPassOf queue new
    pub parts : (view new).parts + count ≡ (view old).parts
    pub put : (view new).put ≡ (view old).put
    pub taken : (view new).taken ≡ (view old).taken

  -- what these had came to the pass
  pub record HasTakenIn {S : Type 0} (holders : List (Holder T S)) (old new : QueuePass T)
      : Type 0 where
    pub has_parts : HasParts new
    pub view_is : view new ≡
        ledger ((view old).parts + sum_by parts_by holders)
        ((view old).put ++ flat_map put_by holders)
        ((view old).taken ++ flat_map taken_by holders)
