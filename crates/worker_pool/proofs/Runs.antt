-- A worker's run, job by job.
use Rattle.std.proofs.Common.{◌≡◌, ℕ, ◌+◌, ◌^◌, ◌<◌, List, [], ◌∷◌, ◌++◌, length, map, reverse, Some, sym, ap, ◌∙◌, refl, subst, arith, append_assoc, vec_len, vec_capacity}
use Rattle.std.proofs.lemmas.List.{map-append, reverse-append, append-nil}
use Rattle.std.proofs.lemmas.List.Elements.{All-pop}
use Rattle.cred_seal.specs.Dice.{DiceState}
use Rattle.decode_rules.specs.declared.world.World.{World}
use Rattle.replay_gate.specs.PassState.{GateId, PassState}
use Rattle.session_core.specs.OnGate.{Draws, PassGoesOn}
use Rattle.worker_pool.specs.Drawing.{AreBySix, drawn_of}
use Rattle.worker_pool.specs.Lanes.{to_come, numbers_of, IsTaskOf, IsFresh, IsReady, HasRun, Running, dice_after}
use Rattle.worker_pool.specs.Serving.{IsServedJob}
use Rattle.worker_pool.specs.Standing.{Worked}
use Rattle.worker_pool.specs.Work.{Sight, Work, work_of}
use Rattle.worker_pool.specs.declared.job.Done.{Done}
use Rattle.worker_pool.specs.declared.lane.Lane.{Lane}
use Rattle.worker_pool.specs.declared.lane.Task.{Task}
use Rattle.worker_pool.proofs.Accounts.{worked_none, worked_more}
use Rattle.worker_pool.proofs.Drawings.{draws_more}

pub starts : {L C : Type 0} (sight : Sight L C) (world : World) (gate : GateId) (lane : Lane L C) → IsReady gate lane → Running sight world lane lane
starts {L} {C} sight world gate lane ready = record {
  gone_on = refl;
  in_order = ap (λ l. numbers_of l ++ to_come lane.tasks.items) ready.nothing_done;
  room = ready.room;
  dice_is = subst (λ (l : List (Done L C)). lane.dice ≡ dice_after lane.dice.seed (length (drawn_of l))) (sym ready.nothing_done)
      (ap (λ (p : ℕ). let d : DiceState = record { seed = lane.dice.seed; place = p } in d) ready.none_drawn);
  by_six = subst (λ (l : List (Done L C)). AreBySix (drawn_of l)) (sym ready.nothing_done) refl;
  worked = λ made seeds jobs all.
      let work : Work L C = work_of sight world seeds jobs in (
        subst (λ (l : List (Done L C)). Worked work lane.pass.number lane.pass.seen lane.pass.highest l) (sym ready.nothing_done)
            (subst (λ l. Worked work lane.pass.number l lane.pass.highest []) (sym ready.fresh.seen) (worked_none work lane.pass.number lane.pass.highest)),
        all,
      );
}

pub to_come_more : {L C : Type 0} (tasks : List (Task L C)) (task : Task L C) → to_come (tasks ++ task ∷ []) ≡ task.number ∷ to_come tasks
to_come_more {L} {C} tasks task =
    ap reverse (map-append (λ (t : Task L C). t.number) tasks (task ∷ [])) ∙ reverse-append (map (λ (t : Task L C). t.number) tasks) (task.number ∷ [])

pub alone : (gate : GateId) (first now : PassState) → IsFresh gate first → PassGoesOn first now → now.numbers ≡ now.number ∷ []
alone gate first now fresh on =
    let P : PassState → Type 0 = λ z. z.numbers ≡ z.number ∷ [] in subst P (sym on) fresh.alone

pub of_gate : (gate : GateId) (first now : PassState) → IsFresh gate first → PassGoesOn first now → now.gate ≡ gate
of_gate gate first now fresh on = ap (λ (z : PassState). z.gate) on ∙ fresh.of_gate

pub goes_on : {L C : Type 0} (sight : Sight L C) (world : World) (gate : GateId) (first now new : Lane L C) (task : Task L C) (done : Done L C)
    → PassGoesOn now.pass new.pass → IsFresh gate first.pass → Running sight world first now
    → now.tasks.items ≡ new.tasks.items ++ task ∷ [] → done.job ≡ task.number
    → IsServedJob sight world now.dice.seed now.pass new.pass task.job done → Draws now.dice new.dice done.served.drawn
    → new.done.items ≡ now.done.items ++ done ∷ [] → length now.done.items < 2 ^ 64
    → vec_len new.tasks + 1 ≡ vec_len now.tasks → vec_len new.done ≡ vec_len now.done + 1 → vec_capacity new.done ≡ vec_capacity now.done
    → Running sight world first new
goes_on {L} {C} sight world gate first now new task done on fresh running popped number did draws pushed small fewer more same =
    let drawn = draws_more first.dice.seed now.done.items done now.dice new.dice running.dice_is running.by_six small draws in
    let mine : now.dice.seed ≡ first.dice.seed = ap (λ (d : DiceState). d.seed) running.dice_is in
    record {
      gone_on = on ∙ ap (λ (z : PassState). let n : PassState = record z { highest = new.pass.highest; seen = new.pass.seen } in n) running.gone_on;
      in_order =
          ap (λ l. numbers_of l ++ to_come new.tasks.items) pushed
          ∙ (ap (λ l. l ++ to_come new.tasks.items) (map-append (λ (d : Done L C). d.job) now.done.items (done ∷ []))
          ∙ (append_assoc (numbers_of now.done.items) (done.job ∷ []) (to_come new.tasks.items)
          ∙ (ap (λ k. numbers_of now.done.items ++ k ∷ to_come new.tasks.items) number
          ∙ (ap (λ l. numbers_of now.done.items ++ l) (sym (to_come_more new.tasks.items task) ∙ ap to_come (sym popped)) ∙ running.in_order))));
      room = (let r = running.room in omega arith);
      dice_is = subst (λ (l : List (Done L C)). new.dice ≡ dice_after first.dice.seed (length (drawn_of l))) (sym pushed) drawn.0;
      by_six = subst (λ (l : List (Done L C)). AreBySix (drawn_of l)) (sym pushed) drawn.1;
      worked = λ made seeds jobs all.
          let work : Work L C = work_of sight world seeds jobs in
          let h = running.worked made seeds jobs all in
          let parts = All-pop (IsTaskOf work first.dice.seed) now.tasks.items new.tasks.items (Some task) popped h.1 in
          let w = worked_more sight world seeds jobs first.dice.seed now.pass new.pass now.done.items task done made
          (alone gate first.pass now.pass fresh running.gone_on) number parts.1
          (subst (λ (s : List ℕ). IsServedJob sight world s now.pass new.pass task.job done) mine did) h.0 in
          (subst (λ (l : List (Done L C)). Worked work new.pass.number new.pass.seen new.pass.highest l) (sym pushed) w, parts.0);
    }

none_left : {X : Type 0} (xs : List X) → length xs ≡ 0 → xs ≡ []
none_left [] none = refl
none_left (x ∷ xs) none = absurd (omega arith)

pub ends : {L C : Type 0} (sight : Sight L C) (world : World) (first now new : Lane L C) → new.pass ≡ now.pass → new.done ≡ now.done
    → length now.tasks.items ≡ 0 → Running sight world first now → HasRun sight world first new
ends {L} {C} sight world first now new pass done short running =
    let none : now.tasks.items ≡ [] = none_left now.tasks.items short in
    let items : new.done.items ≡ now.done.items = ap (λ d. d.items) done in
    let on : PassGoesOn first.pass new.pass = subst (PassGoesOn first.pass) (sym pass) running.gone_on in
    record {
      gone_on = on;
      in_order =
          ap numbers_of items
          ∙ (sym (append-nil (numbers_of now.done.items)) ∙ (ap (λ l. numbers_of now.done.items ++ to_come l) (sym none) ∙ running.in_order));
      by_six = subst (λ (l : List (Done L C)). AreBySix (drawn_of l)) (sym items) running.by_six;
      worked = λ made seeds jobs all.
          let work : Work L C = work_of sight world seeds jobs in
          subst (λ (l : List (Done L C)). Worked work new.pass.number new.pass.seen new.pass.highest l) (sym items)
          (subst (λ (z : PassState). Worked work z.number z.seen z.highest now.done.items) (sym pass) (running.worked made seeds jobs all).0);
    }
