-- What one worker makes of what is left in the queue.
use Rattle.std.specs.Prelude.{◌≡◌, ℕ, List, [], ◌++◌}
use Rattle.std.specs.List.Sorted.{IsPermutation}
use Rattle.std.specs.declared.option.Option.{Option}
use Rattle.std.specs.declared.option.Option.TheVariants.{None, Some}
use Rattle.decode_rules.specs.declared.world.World.{World}
use Rattle.replay_gate.specs.PassState.{GateId}
use Rattle.worker_pool.specs.Cases.{Case, takens}
use Rattle.worker_pool.specs.Desks.{DeskSight, HasWorked}
use Rattle.worker_pool.specs.Queue.{ledger}
use Rattle.worker_pool.specs.Single.{IsSingle}
use Rattle.worker_pool.specs.declared.desk.Desk.{Desk}
use Rattle.worker_pool.specs.declared.post.Queued.{Queued}
use Rattle.worker_pool.specs.declared.queue.Ledger.{Ledger}

-- whatever a worker had served since it began, it has served these behind
abbrev pub ServesOn : {L C B : Type 0} → DeskSight L C B → World → GateId
    → (old new : Desk C B) → (more : List (Case L)) → Type 0
ServesOn {L} {C} {B} sight world gate old new more =
    (first : Desk C B) (cases : List (Case L)) → IsSingle gate first.pass
    → HasWorked sight world first old cases → HasWorked sight world first new (cases ++ more)

-- why no more was served: all was taken, or this ticket was found worn
abbrev pub StopsBy : {L : Type 0} → (stopped now : Option ℕ) → Ledger (Queued L) → Type 0
StopsBy None now ledger = IsPermutation ledger.put ledger.taken
StopsBy (Some ticket) now ledger = now ≡ Some ticket

-- It has taken and served these, until nothing was left or a ticket was worn.
pub record ServedRest {L C B : Type 0} (sight : DeskSight L C B) (world : World) (gate : GateId)
    (old new : Ledger (Queued L)) (desk after : Desk C B) (stopped : Option ℕ) : Type 0 where
  pub more : List (Case L)
  pub view_is : new ≡ ledger old.parts old.put (old.taken ++ takens more)
  pub serves : ServesOn sight world gate desk after more
  pub stops : StopsBy stopped after.worn new

-- What was put was taken before, was served by this worker, or is left, where it found the gate
-- worn.
pub record Drained {L C B : Type 0} (sight : DeskSight L C B) (world : World) (gate : GateId)
    (old : Ledger (Queued L)) (desk after : Desk C B) (left : List (Queued L)) : Type 0 where
  pub more : List (Case L)
  pub same : IsPermutation old.put ((old.taken ++ takens more) ++ left)
  pub serves : ServesOn sight world gate desk after more
  pub left_empty : after.worn ≡ None → left ≡ []
