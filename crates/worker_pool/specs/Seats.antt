-- A worker and its pass of the queue.
use Rattle.std.specs.Prelude.{◌≡◌, ℕ, ◌<◌, List, [], length, slice_index_or}
use Rattle.std.specs.declared.option.Option.{Option}
use Rattle.crossbeam_queue.specs.Passes.{IsPassOf, view}
use Rattle.crossbeam_queue.specs.declared.array_queue.Doing.{Doing}
use Rattle.crossbeam_queue.specs.declared.array_queue.Slotted.{Slotted}
use Rattle.decode_rules.specs.declared.world.World.{World}
use Rattle.replay_gate.specs.PassState.{GateId}
use Rattle.worker_pool.specs.Cases.{Case, takens}
use Rattle.worker_pool.specs.Desks.{DeskSight, HasWorked, IsNewDesk}
use Rattle.worker_pool.specs.Holders.{IsNewLedger}
use Rattle.worker_pool.specs.declared.desk.Desk.{Desk}
use Rattle.worker_pool.specs.declared.holders.Holder.{Holder}
use Rattle.worker_pool.specs.declared.post.Queued.{Queued}
use Rattle.worker_pool.specs.declared.queue.Ledger.{Ledger}

-- a worker that has not begun, with a pass that was just made
pub record IsNewSeat {L C B Q A : Type 0} (sight : DeskSight L C B) (gate : GateId)
    (queue : Slotted (Option (Queued L)) (Doing (Queued L) (Ledger (Queued L))) Q A)
    (seat : Holder (Queued L) (Desk C B)) : Type 0 where
  pub ledger : IsNewLedger queue seat
  pub desk : IsNewDesk sight gate seat.state

-- It has put nothing, and what it has taken is what it has served.
pub record HasServedSeat {L C B Q A : Type 0} (sight : DeskSight L C B) (world : World)
    (queue : Slotted (Option (Queued L)) (Doing (Queued L) (Ledger (Queued L))) Q A)
    (old new : Holder (Queued L) (Desk C B)) : Type 0 where
  pub of_queue : IsPassOf queue new.pass
  pub one_part : (view new.pass).parts ≡ 1
  pub none_put : (view new.pass).put ≡ []
  pub cases : List (Case L)
  pub taken_are : (view new.pass).taken ≡ takens cases
  pub worked : HasWorked sight world old.state new.state cases

abbrev pub EachServed : {L C B Q A : Type 0} → DeskSight L C B → World
    → Slotted (Option (Queued L)) (Doing (Queued L) (Ledger (Queued L))) Q A
    → (old new : List (Holder (Queued L) (Desk C B))) → Type 0
EachServed {L} {C} {B} {Q} {A} sight world queue old new =
    (k : ℕ) (h : Holder (Queued L) (Desk C B)) → k < length old
    → HasServedSeat sight world queue (slice_index_or old k h) (slice_index_or new k h)
