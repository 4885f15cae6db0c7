-- A worker's turn at the queue.
use Rattle.std.proofs.Common.{◌≡◌, List, [], ◌∷◌, ◌++◌, Option, sym, ap, ◌∙◌, subst, append_assoc}
use Rattle.std.proofs.lemmas.List.{append-nil, map-append}
use Rattle.crossbeam_queue.specs.Passes.{IsPassOf, view}
use Rattle.crossbeam_queue.specs.declared.array_queue.Doing.{Doing}
use Rattle.crossbeam_queue.specs.declared.array_queue.Slotted.{Slotted}
use Rattle.decode_rules.specs.declared.world.World.{World}
use Rattle.replay_gate.specs.PassState.{GateId}
use Rattle.worker_pool.specs.Cases.{Case, case_of, takens}
use Rattle.worker_pool.specs.Desks.{DeskSight, Handles, HasWorked}
use Rattle.worker_pool.specs.Drains.{ServesOn}
use Rattle.worker_pool.specs.Queue.{HasTaken, ledger}
use Rattle.worker_pool.specs.Seats.{HasServedSeat, IsNewSeat}
use Rattle.worker_pool.specs.declared.desk.Desk.{Desk}
use Rattle.worker_pool.specs.declared.holders.Holder.{Holder}
use Rattle.worker_pool.specs.declared.post.Queued.{Queued}
use Rattle.worker_pool.specs.declared.queue.Ledger.{Ledger}
use Rattle.worker_pool.proofs.Desks.{worked_more, worked_none}

module _ {L C B Q A : Type 0} (sight : DeskSight L C B) (world : World) (gate : GateId)
    (queue : Slotted (Option (Queued L)) (Doing (Queued L) (Ledger (Queued L))) Q A) where
  pub seat_none : (seat : Holder (Queued L) (Desk C B)) → IsNewSeat sight gate queue seat → HasServedSeat sight world queue seat seat
  seat_none seat new = record {
    of_queue = new.ledger.of_queue;
    one_part = ap (λ (v : Ledger (Queued L)). v.parts) new.ledger.is_new;
    none_put = ap (λ (v : Ledger (Queued L)). v.put) new.ledger.is_new;
    cases = [];
    taken_are = ap (λ (v : Ledger (Queued L)). v.taken) new.ledger.is_new;
    worked = worked_none sight world gate seat.state new.desk;
  }

  pub seat_more : (first now new : Holder (Queued L) (Desk C B)) (taken : Queued L) → IsNewSeat sight gate queue first
      → HasServedSeat sight world queue first now → IsPassOf queue new.pass → HasTaken (view now.pass) taken (view new.pass)
      → Handles sight world now.state taken new.state → HasServedSeat sight world queue first new
  seat_more first now new taken began had of_queue took h = record {
    of_queue = of_queue;
    one_part = ap (λ (v : Ledger (Queued L)). v.parts) took ∙ had.one_part;
    none_put = ap (λ (v : Ledger (Queued L)). v.put) took ∙ had.none_put;
    cases = had.cases ++ case_of taken h.kept ∷ [];
    taken_are = ap (λ (v : Ledger (Queued L)). v.taken) took
        ∙ (ap (λ l. l ++ taken ∷ []) had.taken_are ∙ sym (map-append (λ (c : Case L). c.taken) had.cases (case_of taken h.kept ∷ [])));
    worked = worked_more sight world gate first.state now.state new.state had.cases taken h began.desk.single had.worked;
  }

module _ {L C B : Type 0} (sight : DeskSight L C B) (world : World) (gate : GateId) where
  pub serves_none : (desk : Desk C B) → ServesOn sight world gate desk desk []
  serves_none desk first cases single had = subst (HasWorked sight world first desk) (sym (append-nil cases)) had

  pub serves_more : (old now new : Desk C B) (more : List (Case L)) (taken : Queued L) (h : Handles sight world now taken new)
      → ServesOn sight world gate old now more → ServesOn sight world gate old new (more ++ case_of taken h.kept ∷ [])
  serves_more old now new more taken h on first cases single had =
      subst (HasWorked sight world first new) (append_assoc cases more (case_of taken h.kept ∷ []))
      (worked_more sight world gate first now new (cases ++ more) taken h single (on first cases single had))

pub view_none : {L : Type 0} (v : Ledger (Queued L)) → v ≡ ledger v.parts v.put (v.taken ++ takens {L = L} [])
view_none {L} v = ap (λ l. ledger v.parts v.put l) (sym (append-nil v.taken))

pub view_more : {L : Type 0} (old now new : Ledger (Queued L)) (more : List (Case L)) (c : Case L) → now ≡ ledger old.parts old.put (old.taken ++ takens more)
    → HasTaken now c.taken new → new ≡ ledger old.parts old.put (old.taken ++ takens (more ++ c ∷ []))
view_more {L} old now new more c is took =
    took
    ∙ (ap (λ (v : Ledger (Queued L)). ledger v.parts v.put (v.taken ++ c.taken ∷ [])) is
    ∙ (ap (λ l. ledger old.parts old.put l) (append_assoc old.taken (takens more) (c.taken ∷ []))
    ∙ ap (λ l. ledger old.parts old.put (old.taken ++ l)) (sym (map-append (λ (c : Case L). c.taken) more (c ∷ [])))))
