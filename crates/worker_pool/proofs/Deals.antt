-- Dealing jobs out.
use Rattle.std.proofs.Common.{◌≡◌, ℕ, ◌+◌, ◌<◌, ◌%◌, nat_eq, true, false, cond, List, [], ◌∷◌, ◌++◌, length, take, drop, set, get_or, zero, suc, Some, sym, ap, ◌∙◌, refl, subst, arith, append_assoc, length-append, ◌≤◌}
use Rattle.std.specs.List.{All, slice_get}
use Rattle.std.proofs.lemmas.Bool.Decides.{Decides-eqb}
use Rattle.std.proofs.lemmas.List.{append-nil, take-append-drop, get_or-set_same, get_or-set_other}
use Rattle.std.proofs.lemmas.List.Elements.{All-push}
use mathlib.Core.Logic.{dite}
use native.Mathlib.Decide.{ℕ_discrete}
use Rattle.replay_gate.specs.PassState.{GateId}
use Rattle.worker_pool.specs.Lanes.{to_come}
use Rattle.worker_pool.specs.Dealing.{share_of, Dealt, EachDealt, EachNew, IsNew, IsTaskAt, Reserved}
use Rattle.worker_pool.specs.declared.job.Job.{Job}
use Rattle.worker_pool.specs.declared.lane.Lane.{Lane}
use Rattle.worker_pool.specs.declared.lane.Task.{Task}
use Rattle.worker_pool.proofs.Account.{get_append, get_end, take_front}
use Rattle.worker_pool.proofs.Runs.{to_come_more}

pub share_mine : (worker workers n : ℕ) → n % workers ≡ worker → share_of worker workers (n + 1) ≡ share_of worker workers n ++ n ∷ []
share_mine worker workers n mine =
    let e : suc n ≡ n + 1 = omega arith in
    subst (λ m. share_of worker workers m ≡ share_of worker workers n ++ n ∷ []) e
    (ap (λ b. share_of worker workers n ++ cond b (n ∷ []) []) ((Decides-eqb (n % workers) worker).1 mine))

pub share_other : (worker workers n : ℕ) → (n % workers ≡ worker → ⊥) → share_of worker workers (n + 1) ≡ share_of worker workers n
share_other worker workers n other =
    let e : suc n ≡ n + 1 = omega arith in
    let no : nat_eq (n % workers) worker ≡ false = elim (nat_eq (n % workers) worker) as (λ b. (b ≡ true → n % workers ≡ worker) → b ≡ false)
    [ true ↦ λ yes. absurd (other (yes refl)) | false ↦ λ yes. refl ] (Decides-eqb (n % workers) worker).0 in
    subst (λ m. share_of worker workers m ≡ share_of worker workers n) e
    (ap (λ b. share_of worker workers n ++ cond b (n ∷ []) []) no ∙ append-nil (share_of worker workers n))

-- the last of so many jobs has the number below
pub last_job : {J : Type 0} (jobs xs rest : List J) (n : ℕ) (job : J) → xs ≡ take n jobs → xs ≡ rest ++ job ∷ []
    → (slice_get jobs (length rest) ≡ Some job) × (rest ≡ take (length rest) jobs)
last_job jobs xs rest n job front split =
    let all : (rest ++ job ∷ []) ++ drop n jobs ≡ jobs = ap (λ l. l ++ drop n jobs) (sym split ∙ front) ∙ take-append-drop n jobs in (
      subst (λ l. slice_get l (length rest) ≡ Some job) all (get_append (rest ++ job ∷ []) (drop n jobs) (length rest) job (get_end rest job)),
      sym (subst (λ l. take (length rest) l ≡ rest) (sym (append_assoc rest (job ∷ []) (drop n jobs)) ∙ all) (take_front rest (job ∷ drop n jobs))),
    )

pub default_free : {X : Type 0} (l : List X) (i : ℕ) (a b : X) → i < length l → get_or l i a ≡ get_or l i b
default_free [] i a b short = absurd (omega arith)
default_free (x ∷ l) zero a b short = refl
default_free (x ∷ l) (suc i) a b short = default_free l i a b (omega arith)

pub deal_more : {L C : Type 0} (jobs : List (Job L C)) (old lanes : List (Lane L C)) (number at : ℕ) (job : Job L C) (was new : Lane L C)
    → length lanes ≡ length old → 0 < length old
    → at ≡ number % length old → slice_get jobs number ≡ Some job → new.pass ≡ (get_or lanes at was).pass → new.dice ≡ (get_or lanes at was).dice
    → new.done.items ≡ (get_or lanes at was).done.items
    → new.tasks.items ≡ (get_or lanes at was).tasks.items ++ record { number = number; job = job } ∷ []
    → EachDealt jobs (number + 1) old lanes → EachDealt jobs number old (set lanes at new)
deal_more {L} {C} jobs old lanes number at job was new same some at_is is pass dice done tasks each k d within =
    let workers = length old in
    let task : Task L C = record { number = number; job = job } in
    dite (ℕ_discrete k at)
    (λ here.
    let before = each at was (omega arith) in
    let mine : number % workers ≡ at = sym at_is in
    let dealt : Dealt jobs at workers number (get_or old at was) new = record {
      same_pass = pass ∙ before.same_pass;
      same_dice = dice ∙ before.same_dice;
      same_done = done ∙ before.same_done;
      in_order =
          ap (λ l. share_of at workers number ++ to_come l) tasks
          ∙ (ap (λ l. share_of at workers number ++ l) (to_come_more (get_or lanes at was).tasks.items task)
          ∙ (sym (append_assoc (share_of at workers number) (number ∷ []) (to_come (get_or lanes at was).tasks.items))
          ∙ (ap (λ l. l ++ to_come (get_or lanes at was).tasks.items) (sym (share_mine at workers number mine)) ∙ before.in_order)));
      tasks = subst (All (IsTaskAt jobs at workers)) (sym tasks)
          (All-push (IsTaskAt jobs at workers) (get_or lanes at was).tasks.items task before.tasks (record { job_is = is; worker_is = mine }));
    } in
    let there : get_or (set lanes at new) at d ≡ new = get_or-set_same lanes at new d (omega arith) in
    let first : get_or old at was ≡ get_or old at d = default_free old at was d (omega arith) in
    let P : ℕ → Type 0 = λ n. Dealt jobs n workers number (get_or old n d) (get_or (set lanes at new) n d) in
    subst P (sym here)
    (subst (λ (z : Lane L C). Dealt jobs at workers number (get_or old at d) z) (sym there)
    (subst (λ (z : Lane L C). Dealt jobs at workers number z new) first dealt)))
    (λ other.
    let before = each k d within in
    let not_mine : number % workers ≡ k → ⊥ = λ e. other (sym e ∙ sym at_is) in
    let dealt : Dealt jobs k workers number (get_or old k d) (get_or lanes k d) = record {
      same_pass = before.same_pass;
      same_dice = before.same_dice;
      same_done = before.same_done;
      in_order = ap (λ l. l ++ to_come (get_or lanes k d).tasks.items) (sym (share_other k workers number not_mine)) ∙ before.in_order;
      tasks = before.tasks;
    } in
    subst (λ (z : Lane L C). Dealt jobs k workers number (get_or old k d) z) (sym (get_or-set_other lanes at k new d other)) dealt)

-- ---- workers, one by one

get_front : {A : Type 0} (xs ys : List A) (i : ℕ) (d : A) → i < length xs → get_or (xs ++ ys) i d ≡ get_or xs i d
get_front [] ys i d within = absurd (omega arith)
get_front (x ∷ xs) ys zero d within = refl
get_front (x ∷ xs) ys (suc i) d within = get_front xs ys i d (omega arith)

get_last : {A : Type 0} (xs : List A) (x : A) (i : ℕ) (d : A) → i ≡ length xs → get_or (xs ++ x ∷ []) i d ≡ x
get_last [] x i d e = rw e refl
get_last (y ∷ xs) x zero d e = absurd (omega arith)
get_last (y ∷ xs) x (suc i) d e = get_last xs x i d (omega arith)

pub new_more : {L C : Type 0} (gate : GateId) (seeds : List (List ℕ)) (lanes : List (Lane L C)) (lane : Lane L C)
    → EachNew gate seeds lanes → IsNew gate (get_or seeds (length lanes) []) lane → EachNew gate seeds (lanes ++ lane ∷ [])
new_more {L} {C} gate seeds lanes lane each is k d within =
    let more = length-append lanes (lane ∷ []) in
    dite (ℕ_discrete k (length lanes))
    (λ same.
    subst (λ (z : Lane L C). IsNew gate (get_or seeds k []) z) (sym (get_last lanes lane k d same))
    (subst (λ n. IsNew gate (get_or seeds n []) lane) (sym same) is))
    (λ other.
    subst (λ (z : Lane L C). IsNew gate (get_or seeds k []) z) (sym (get_front lanes (lane ∷ []) k d (omega arith))) (each k d (omega arith)))

pub reserved_behind : {L C : Type 0} (old lanes : List (Lane L C)) (at : ℕ) (was new : Lane L C) → at < length lanes
    → Reserved (get_or lanes at was) new
    → ((k : ℕ) (d : Lane L C) → k < at → Reserved (get_or old k d) (get_or lanes k d))
    → ((k : ℕ) (d : Lane L C) → at ≤ k → get_or lanes k d ≡ get_or old k d)
    → (k : ℕ) (d : Lane L C) → k < at + 1 → Reserved (get_or old k d) (get_or (set lanes at new) k d)
reserved_behind {L} {C} old lanes at was new below is behind ahead k d within =
    dite (ℕ_discrete k at)
    (λ same.
    let first : get_or lanes at was ≡ get_or old k d = default_free lanes at was d below ∙ (ahead at d (omega arith) ∙ ap (λ n. get_or old n d) (sym same)) in
    let there : get_or (set lanes at new) k d ≡ new = ap (λ n. get_or (set lanes at new) n d) same ∙ get_or-set_same lanes at new d below in
    subst (λ (z : Lane L C). Reserved (get_or old k d) z) (sym there) (subst (λ (z : Lane L C). Reserved z new) first is))
    (λ other.
    subst (λ (z : Lane L C). Reserved (get_or old k d) z) (sym (get_or-set_other lanes at k new d other)) (behind k d (omega arith)))

pub reserved_ahead : {L C : Type 0} (old lanes : List (Lane L C)) (at : ℕ) (new : Lane L C)
    → ((k : ℕ) (d : Lane L C) → at ≤ k → get_or lanes k d ≡ get_or old k d)
    → (k : ℕ) (d : Lane L C) → at + 1 ≤ k → get_or (set lanes at new) k d ≡ get_or old k d
reserved_ahead old lanes at new ahead k d above =
    let apart : k ≡ at → ⊥ = λ same. absurd (omega arith) in
    get_or-set_other lanes at k new d apart ∙ ahead k d (omega arith)

-- what a list is that was lent whole
pub whole_of : {X : Type 0} (n : ℕ) (new old : List X) → length new ≡ length old → n ≡ length old → take n (new ++ drop (length new) old) ≡ new
whole_of n new old same is =
    let e : n ≡ length new = omega arith in
    ap (λ k. take k (new ++ drop (length new) old)) e ∙ take_front new (drop (length new) old)
