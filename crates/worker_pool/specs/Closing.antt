-- What acceptors, workers and the leftovers come to, once all have ended.
use Rattle.std.specs.Prelude.{◌≡◌, List, [], ◌++◌, flat_map, length, map, reverse}
use Rattle.std.specs.List.{All}
use Rattle.std.specs.List.Sorted.{IsPermutation}
use Rattle.std.specs.declared.option.Option.{Option}
use Rattle.std.specs.declared.option.Option.TheVariants.{None}
use Rattle.crossbeam_queue.specs.Passes.{IsPassOf, view}
use Rattle.crossbeam_queue.specs.declared.array_queue.Doing.{Doing}
use Rattle.crossbeam_queue.specs.declared.array_queue.Slotted.{Slotted}
use Rattle.decode_rules.specs.declared.world.World.{World}
use Rattle.replay_gate.specs.PassState.{GateId}
use Rattle.worker_pool.specs.Accepting.{DoorSight, PostsRan}
use Rattle.worker_pool.specs.Cases.{Case, takens}
use Rattle.worker_pool.specs.Desks.{DeskSight, HasWorked}
use Rattle.worker_pool.specs.Seats.{EachServed, IsNewSeat}
use Rattle.worker_pool.specs.Single.{IsSingle}
use Rattle.worker_pool.specs.declared.desk.Desk.{Desk}
use Rattle.worker_pool.specs.declared.holders.Holder.{Holder}
use Rattle.worker_pool.specs.declared.post.Post.{Post}
use Rattle.worker_pool.specs.declared.post.Queued.{Queued}
use Rattle.worker_pool.specs.declared.queue.Ledger.{Ledger}

-- a worker as it began, what it has served, and the worker as it ended
pub record Career (L C B : Type 0) : Type 0 where
  pub first : Desk C B
  pub cases : List (Case L)
  pub last : Desk C B

abbrev pub IsCareer : {L C B : Type 0} → DeskSight L C B → World → Career L C B → Type 0
IsCareer sight world career = HasWorked sight world career.first career.last career.cases

-- what a worker took from the queue
abbrev pub taken_in : {L C B : Type 0} → Career L C B → List (Queued L)
taken_in career = takens career.cases

-- an acceptor that has put what it has, and has taken nothing
pub record HasEnded {T S Q A : Type 0}
    (queue : Slotted (Option T) (Doing T (Ledger T)) Q A) (holder : Holder T S) : Type 0 where
  pub of_queue : IsPassOf queue holder.pass
  pub one_part : (view holder.pass).parts ≡ 1
  pub none_taken : (view holder.pass).taken ≡ []

-- a worker that has put nothing, with a pass of the gate that is its own
pub record HasEndedSeat {T C B Q A : Type 0} (gate : GateId)
    (queue : Slotted (Option T) (Doing T (Ledger T)) Q A) (seat : Holder T (Desk C B))
    : Type 0 where
  pub of_queue : IsPassOf queue seat.pass
  pub one_part : (view seat.pass).parts ≡ 1
  pub none_put : (view seat.pass).put ≡ []
  pub single : IsSingle gate seat.state.pass

-- These workers have served all that was put, but for what was left, and nothing is left where none
-- of them found the gate worn.
pub record ClosedUp {L C B : Type 0} (sight : DeskSight L C B) (world : World)
    (puts : List (Queued L)) (firsts lasts : List (Desk C B)) (left : List (Queued L))
    : Type 0 where
  pub careers : List (Career L C B)
  pub firsts_are : map (λ w. w.first) careers ≡ firsts
  pub lasts_are : map (λ w. w.last) careers ≡ lasts
  pub worked : All (IsCareer sight world) careers
  pub same : IsPermutation puts (flat_map taken_in careers ++ left)
  pub left_empty : All (λ d. d.worn ≡ None) lasts → left ≡ []

-- the same, whatever the workers of these seats were when they began
abbrev pub ClosesUp : {L C B Q A : Type 0} → DeskSight L C B → World → GateId
    → Slotted (Option (Queued L)) (Doing (Queued L) (Ledger (Queued L))) Q A
    → (puts : List (Queued L)) → (seats : List (Holder (Queued L) (Desk C B)))
    → (lasts : List (Desk C B)) → (left : List (Queued L)) → Type 0
ClosesUp {L} {C} {B} sight world gate queue puts seats lasts left =
    (old : List (Holder (Queued L) (Desk C B))) → length seats ≡ length old
    → All (IsNewSeat sight gate queue) old → EachServed sight world queue old seats
    → ClosedUp sight world puts (map (λ h. h.state) (reverse old)) lasts left

-- All have worked: the acceptors of these posts, and these workers.
pub record WorkedAll {D L C B : Type 0} (doors : DoorSight D L) (sight : DeskSight L C B)
    (world : World) (posts posts' : List (Post D)) (firsts lasts : List (Desk C B))
    (left : List (Queued L)) : Type 0 where
  pub puts : List (List (Queued L))
  pub posts_ran : PostsRan doors posts posts' puts
  pub closed : ClosedUp sight world (flat_map (λ l. l) puts) firsts lasts left
