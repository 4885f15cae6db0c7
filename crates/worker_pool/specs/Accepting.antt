-- What an acceptor leaves.
use Rattle.std.specs.Prelude.{◌≡◌, ℕ, ◌<◌, ◌≤◌, ◌⊎◌, true, false, List, [], length, slice_index_or}
use Rattle.std.specs.declared.option.Option.{Option}
use Rattle.crossbeam_queue.specs.Passes.{IsPassOf, view}
use Rattle.crossbeam_queue.specs.declared.array_queue.Doing.{Doing}
use Rattle.crossbeam_queue.specs.declared.array_queue.Slotted.{Slotted}
use Rattle.byte_io.specs.Counts.{Rose}
use Rattle.worker_pool.specs.Giving.{Accepted}
use Rattle.worker_pool.specs.declared.holders.Holder.{Holder}
use Rattle.worker_pool.specs.declared.post.Post.{Post}
use Rattle.worker_pool.specs.declared.post.Queued.{Queued}
use Rattle.worker_pool.specs.declared.queue.Ledger.{Ledger}

-- how contracts see doors: the connections to come, where they are told; how many calls failed; and
-- that none comes any more
pub record DoorSight (D C : Type 0) : Type 1 where
  pub coming : D → Option (List C)
  pub faults : D → ℕ
  pub over : D → Type 0

abbrev pub door_sight : {D C : Type 0} → (coming : D → Option (List C)) → (faults : D → ℕ)
    → (over : D → Type 0) → DoorSight D C
door_sight coming faults over = record { coming = coming; faults = faults; over = over }

-- What became of a post of this number, whose acceptor has put these. Its door is over, or has
-- failed, which it says; its count of faults did not fall, and rose just where it failed.
pub record PostRan {D C : Type 0} (doors : DoorSight D C) (number : ℕ) (old new : Post D)
    (put : List (Queued C)) : Type 0 where
  pub who_is : new.who ≡ old.who
  pub accepted : Accepted old.who number (doors.coming old.door) (doors.coming new.door) put
  pub ended : doors.over new.door ⊎ Rose (doors.faults old.door) (doors.faults new.door)
  pub faults_stay : doors.faults old.door ≤ doors.faults new.door
  pub failed : new.failed ≡ true → Rose (doors.faults old.door) (doors.faults new.door)
  pub sound : new.failed ≡ false
      → doors.over new.door × (doors.faults new.door ≡ doors.faults old.door)

-- What became of all posts, in the order in which they were given, whose acceptors have put these,
-- a list for each
pub record PostsRan {D C : Type 0} (doors : DoorSight D C) (old new : List (Post D))
    (puts : List (List (Queued C))) : Type 0 where
  pub posts_stay : length new ≡ length old
  pub puts_each : length puts ≡ length old
  pub each : (p : ℕ) (post : Post D) (none : List (Queued C)) → p < length old
      → PostRan doors p (slice_index_or old p post) (slice_index_or new p post)
      (slice_index_or puts p none)

module _ {D C Q A : Type 0} (doors : DoorSight D C)
    (queue : Slotted (Option (Queued C)) (Doing (Queued C) (Ledger (Queued C))) Q A) where
  -- an acceptor has put what it has, and taken nothing
  pub record HasAccepted (old new : Holder (Queued C) (Post D)) : Type 0 where
    pub number_is : new.number ≡ old.number
    pub of_queue : IsPassOf queue new.pass
    pub one_part : (view new.pass).parts ≡ 1
    pub none_taken : (view new.pass).taken ≡ []
    pub ran : PostRan doors old.number old.state new.state (view new.pass).put

  -- each acceptor has
  abbrev pub EachAccepted : List (Holder (Queued C) (Post D)) → List (Holder (Queued C) (Post D))
      → Type 0
  EachAccepted old new = (k : ℕ) (h : Holder (Queued C) (Post D)) → k < length old
      → HasAccepted (slice_index_or old k h) (slice_index_or new k h)
