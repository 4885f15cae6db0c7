-- Workers meet.
use Rattle.std.proofs.Common.{◌≡◌, ℕ, ◌+◌, ◌-◌, ◌≤◌, ◌<◌, nat_eq, Bool, true, false, cond, ◌||◌, List, [], ◌∷◌, ◌++◌, length, get_or, zero, suc, Some, sym, ap, ◌∙◌, refl, subst, arith, length-append}
use Rattle.std.specs.List.{All, AllZip, count_by}
use Rattle.std.proofs.lemmas.Bool.{true≢false}
use Rattle.std.proofs.lemmas.List.{map-append}
use Rattle.std.proofs.lemmas.List.Elements.{All-pop}
use Rattle.std.proofs.lemmas.List.Folds.{list_any-append}
use Rattle.std.proofs.lemmas.List.Sums.{sum_by-append, sum_by-cons}
use Rattle.munge_types.specs.declared.history.Event.{Event}
use Rattle.replay_gate.specs.GoesOn.{GoesOn}
use Rattle.replay_gate.specs.Makers.{maker, is_of, any_by, AreApart}
use Rattle.replay_gate.specs.Meets.{Meets}
use Rattle.replay_gate.specs.PassState.{GateId, PassState}
use Rattle.worker_pool.specs.Standing.{Worked}
use Rattle.worker_pool.specs.Lanes.{IsFresh, numbers_of}
use mathlib.Core.Logic.{dite}
use native.Mathlib.Decide.{ℕ_discrete}
use Rattle.worker_pool.specs.Dealing.{share_of}
use Rattle.worker_pool.specs.Drawing.{AreBySix, drawn_of}
use Rattle.worker_pool.specs.Joining.{lists_of, OnceEach, Team, HasPass, Finished, EachBatch, EachFinished, Joined, Meeting}
use Rattle.worker_pool.specs.Work.{IsMade, Work}
use Rattle.worker_pool.specs.declared.job.Done.{Done}
use Rattle.worker_pool.specs.declared.lane.Lane.{Lane}
use Rattle.worker_pool.specs.declared.pool.Batch.{Batch}
use Rattle.worker_pool.proofs.Account.{neither}
use Rattle.worker_pool.proofs.Accounts.{worked_longer, worked_none}

-- ---- numbers, each once

none_counted : (number : ℕ) (numbers : List ℕ) → (is_of numbers number ≡ true → ⊥) → count_by (nat_eq number) numbers ≡ 0
none_counted number [] never = refl
none_counted number (n ∷ ns) never =
    let h : (nat_eq number n ≡ false) × (is_of ns number ≡ true → ⊥) =
    elim (nat_eq number n) as (λ b. ((b || is_of ns number) ≡ true → ⊥) → (b ≡ false) × (is_of ns number ≡ true → ⊥))
    [ true ↦ λ k. absurd (k refl) | false ↦ λ k. (refl, k) ] never in
    let rest = none_counted number ns h.1 in
    let first : cond {A = ℕ} (nat_eq number n) 1 0 ≡ 0 = ap (λ b. cond {A = ℕ} b 1 0) h.0 in
    omega (arith, sum_by-cons (λ m. cond {A = ℕ} (nat_eq number m) 1 0) n ns)

or_left : (a b : Bool) → (a || b) ≡ true → b ≡ false → a ≡ true
or_left true b h f = refl
or_left false b h f = absurd (true≢false (sym h ∙ f))

pub once_more : (numbers : List ℕ) (n : ℕ) → OnceEach numbers → AreApart numbers (n ∷ []) → OnceEach (numbers ++ n ∷ [])
once_more numbers n once apart number has = by_case (nat_eq number n) refl
  where
    by_case : (b : Bool) → nat_eq number n ≡ b → count_by (nat_eq number) (numbers ++ n ∷ []) ≡ 1
    by_case true e =
        let mine : is_of (n ∷ []) number ≡ true = ap (λ b. b || false) e in
        let none = none_counted number numbers (λ h. apart number h mine) in
        let one : cond {A = ℕ} (nat_eq number n) 1 0 ≡ 1 = ap (λ b. cond {A = ℕ} b 1 0) e in
        omega (arith, sum_by-append (λ m. cond {A = ℕ} (nat_eq number m) 1 0) numbers (n ∷ []))
    by_case false e =
        let not_mine : is_of (n ∷ []) number ≡ false = ap (λ b. b || false) e in
        let there = or_left (is_of numbers number) (is_of (n ∷ []) number) (sym (list_any-append (nat_eq number) numbers (n ∷ [])) ∙ has) not_mine in
        let one = once number there in
        let none : cond {A = ℕ} (nat_eq number n) 1 0 ≡ 0 = ap (λ b. cond {A = ℕ} b 1 0) e in
        omega (arith, sum_by-append (λ m. cond {A = ℕ} (nat_eq number m) 1 0) numbers (n ∷ []))

both_false : (a b : Bool) → a ≡ false → b ≡ false → (a || b) ≡ false
both_false true b p q = absurd (true≢false p)
both_false false b p q = q

-- entries of none of these numbers
pub by_first : (n : ℕ) (ns : List ℕ) (events : List Event) → any_by (n ∷ ns) events ≡ false → (any_by (n ∷ []) events ≡ false) × (any_by ns events ≡ false)
by_first n ns [] none = (refl, refl)
by_first n ns (event ∷ events) none =
    let parts = neither (nat_eq (maker event) n || is_of ns (maker event)) (any_by (n ∷ ns) events) none in
    let here = neither (nat_eq (maker event) n) (is_of ns (maker event)) parts.0 in
    let rest = by_first n ns events parts.1 in (
      both_false (nat_eq (maker event) n || false) (any_by (n ∷ []) events) (both_false (nat_eq (maker event) n) false here.0 refl) rest.0,
      both_false (is_of ns (maker event)) (any_by ns events) here.1 rest.1,
    )

-- ---- a team

pub zip_push : {A B : Type 0} (R : A → B → Type 0) (xs : List A) (ys : List B) (x : A) (y : B) → AllZip R xs ys → R x y
    → AllZip R (xs ++ x ∷ []) (ys ++ y ∷ [])
zip_push R [] [] x y all r = (r, all)
zip_push R [] (b ∷ ys) x y all r = absurd all
zip_push R (a ∷ xs) [] x y all r = absurd all
zip_push R (a ∷ xs) (b ∷ ys) x y all r = (all.0, zip_push R xs ys x y all.1 r)

works_longer : {L C : Type 0} (work : Work L C) (seen others : List Event) (bound higher : ℕ) (numbers : List ℕ) (done : List (List (Done L C))) → bound ≤ higher
    → any_by numbers others ≡ false → AllZip (λ n d. Worked work n seen bound d) numbers done
    → AllZip (λ n d. Worked work n (seen ++ others) higher d) numbers done
works_longer work seen others bound higher [] [] below none all = all
works_longer work seen others bound higher [] (d ∷ ds) below none all = absurd all
works_longer work seen others bound higher (n ∷ ns) [] below none all = absurd all
works_longer work seen others bound higher (n ∷ ns) (d ∷ ds) below none all =
    let parts = by_first n ns others none in (
      worked_longer work n seen (seen ++ others) bound higher d below (record { others = others; longer_is = refl; of_others = parts.0 }) all.0,
      works_longer work seen others bound higher ns ds below parts.1 all.1,
    )

team_one : {L C : Type 0} (work : Work L C) (gate : GateId) (home : PassState) → IsFresh gate home → Team work home ([] ∷ [])
team_one work gate home fresh = record {
  each = λ made. subst (λ l. AllZip (λ n d. Worked work n home.seen home.highest d) l ([] ∷ [])) (sym fresh.alone)
      (subst (λ l. Worked work home.number l home.highest [] × Unit {0}) (sym fresh.seen) (worked_none work home.number home.highest, tt));
  once = subst OnceEach (sym fresh.alone) (once_more [] home.number (λ number has. absurd (true≢false (sym has))) (λ number has mine. absurd (true≢false (sym has))));
}

team_more : {L C : Type 0} (work : Work L C) (first second new : PassState) (done : List (List (Done L C))) (last : List (Done L C)) → Team work first done
    → (IsMade work.world → Worked work second.number second.seen second.highest last) → second.numbers ≡ second.number ∷ [] → Meets first second new
    → Team work new (done ++ last ∷ [])
team_more work first second new done last team worked alone meets =
    let numbers : new.numbers ≡ first.numbers ++ second.number ∷ [] = meets.numbers ∙ ap (λ l. first.numbers ++ l) alone in
    let highest = meets.highest in
    let one = meets.first_goes_on in
    let on = subst (λ l. GoesOn l second.seen new.seen) alone meets.second_goes_on in
    record {
      each = λ made.
          let all = subst (λ l. AllZip (λ n d. Worked work n l new.highest d) first.numbers done) (sym one.longer_is)
          (works_longer work first.seen one.others first.highest new.highest first.numbers done (omega arith) one.of_others (team.each made)) in
          let mine = worked_longer work second.number second.seen new.seen second.highest new.highest last (omega arith) on (worked made) in
          subst (λ l. AllZip (λ n d. Worked work n new.seen new.highest d) l (done ++ last ∷ [])) (sym numbers)
          (zip_push (λ n d. Worked work n new.seen new.highest d) first.numbers done second.number last all mine);
      once = subst OnceEach (sym numbers) (once_more first.numbers second.number team.once (subst (λ l. AreApart first.numbers l) alone meets.apart));
    }

-- ---- workers meet, the last one first

get_front : {A : Type 0} (xs ys : List A) (i : ℕ) (d : A) → i < length xs → get_or (xs ++ ys) i d ≡ get_or xs i d
get_front [] ys i d within = absurd (omega arith)
get_front (x ∷ xs) ys zero d within = refl
get_front (x ∷ xs) ys (suc i) d within = get_front xs ys i d (omega arith)

get_last : {A : Type 0} (xs : List A) (x : A) (i : ℕ) (d : A) → i ≡ length xs → get_or (xs ++ x ∷ []) i d ≡ x
get_last [] x i d e = rw e refl
get_last (y ∷ xs) x zero d e = absurd (omega arith)
get_last (y ∷ xs) x (suc i) d e = get_last xs x i d (omega arith)

pub finished_rest : {L C : Type 0} (work : Work L C) (workers : ℕ) (rest : List (Lane L C)) (lane : Lane L C) → EachFinished work workers (rest ++ lane ∷ [])
    → EachFinished work workers rest × Finished work (length rest) workers lane
finished_rest work workers rest lane each = (
  λ k d within. subst (Finished work k workers) (get_front rest (lane ∷ []) k d within) (each k d (omega (arith, length-append rest (lane ∷ [])))),
  subst (Finished work (length rest) workers) (get_last rest lane (length rest) lane refl) (each (length rest) lane (omega (arith, length-append rest (lane ∷ [])))),
)

each_more : {L C : Type 0} (Holds : ℕ → Batch L C → Type 0) (workers left : ℕ) (batches : List (Batch L C)) (batch : Batch L C)
    → length batches + (left + 1) ≡ workers → Holds left batch → EachBatch Holds workers (left + 1) batches
    → EachBatch Holds workers left (batches ++ batch ∷ [])
each_more {L} {C} Holds workers left batches batch count mine before k e low high =
    dite (ℕ_discrete k left)
    (λ same.
    let at : workers - 1 - k ≡ length batches = omega arith in
    subst (λ (b : Batch L C). Holds k b) (sym (get_last batches batch (workers - 1 - k) e at))
    (subst (λ n. Holds n batch) (sym same) mine))
    (λ other.
    let within : workers - 1 - k < length batches = omega arith in
    subst (λ (b : Batch L C). Holds k b) (sym (get_front batches (batch ∷ []) (workers - 1 - k) e within))
    (before k e (omega arith) high))

pub joined_none : {L C : Type 0} (work : Work L C) (workers : ℕ) (gate : GateId) (home : PassState) → IsFresh gate home → Joined work workers workers home []
joined_none work workers gate home fresh = record {
  team = team_one work gate home fresh;
  in_order = λ k e low high. absurd (omega arith);
  by_six = λ k e low high. absurd (omega arith);
}

pub joined_more : {L C : Type 0} (work : Work L C) (workers left : ℕ) (lane : Lane L C) (first new : PassState) (batches : List (Batch L C)) (batch : Batch L C)
    → length batches + (left + 1) ≡ workers → Finished work left workers lane → lane.pass.numbers ≡ lane.pass.number ∷ []
    → Meets first lane.pass new → batch.done.items ≡ lane.done.items → Joined work workers (left + 1) first batches
    → Joined work workers left new (batches ++ batch ∷ [])
joined_more {L} {C} work workers left lane first new batches batch count finished alone meets same joined = record {
  team =
      (let more = team_more work first lane.pass new ([] ∷ lists_of batches) lane.done.items joined.team finished.worked alone meets in
      subst (Team work new) (ap (λ l. [] ∷ l) (ap (λ l. lists_of batches ++ l ∷ []) (sym same) ∙ sym (map-append (λ (b : Batch L C). b.done.items) batches (batch ∷ [])))) more);
  in_order = each_more (λ k (b : Batch L C). numbers_of b.done.items ≡ share_of k workers (length work.jobs)) workers left batches batch count
      (ap numbers_of same ∙ finished.in_order) joined.in_order;
  by_six = each_more (λ k (b : Batch L C). AreBySix (drawn_of b.done.items)) workers left batches batch count
      (subst (λ (l : List (Done L C)). AreBySix (drawn_of l)) (sym same) finished.by_six) joined.by_six;
}

-- the whole loop's step
pub meeting_more : {L C : Type 0} (gate : GateId) (workers : ℕ) (rest : List (Lane L C)) (lane : Lane L C) (first new : PassState) (batches : List (Batch L C)) (batch : Batch L C)
    → Meets first lane.pass new → Meeting gate workers (rest ++ lane ∷ []) first batches → Meeting gate workers rest new (batches ++ batch ∷ [])
meeting_more gate workers rest lane first new batches batch meets meeting =
    let parts = All-pop (HasPass gate) (rest ++ lane ∷ []) rest (Some lane) refl meeting.rest in
    let has = parts.1 in
    let share = meeting.share in
    let count = meeting.count in
    let sum = meets.share in
    let one = has.share in record {
      of_gate = meets.gate ∙ meeting.of_gate;
      share = omega (arith, length-append rest (lane ∷ []));
      count = omega (arith, length-append rest (lane ∷ []), length-append batches (batch ∷ []));
      rest = parts.0;
    }

pub has_pass : {L C : Type 0} (gate : GateId) (rest : List (Lane L C)) (lane : Lane L C) → All (HasPass gate) (rest ++ lane ∷ []) → HasPass gate lane
has_pass gate rest lane all = (All-pop (HasPass gate) (rest ++ lane ∷ []) rest (Some lane) refl all).1
