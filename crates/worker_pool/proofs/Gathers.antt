-- Gathering what came of the jobs, the last job first.
use Rattle.std.proofs.Common.{Bool, true, false, nat_eq, ◌≡◌, ℕ, ◌+◌, ◌-◌, ◌<◌, ◌%◌, List, [], ◌∷◌, ◌++◌, length, map, reverse, set, get_or, suc, Some, sym, ap, ◌∙◌, refl, subst, arith, append_assoc, length-append}
use Rattle.std.specs.List.{All, filter, sum_by, range_with_len}
use Rattle.std.proofs.lemmas.Bool.Decides.{Decides-eqb}
use Rattle.std.proofs.lemmas.List.{append-nil, length-map, map-append, reverse-append, get_or-set_same, get_or-set_other}
use Rattle.std.proofs.lemmas.List.Elements.{All-head, All-tail, All-pop, All-push, All-set, All-get_or, filter-append}
use Rattle.std.proofs.lemmas.List.Sums.{sum_by-cons, sum_by_push, sum_by-set}
use mathlib.Core.Logic.{dite}
use native.Mathlib.Decide.{ℕ_discrete}
use Rattle.worker_pool.specs.Lanes.{numbers_of}
use Rattle.worker_pool.specs.Dealing.{share_of}
use Rattle.worker_pool.specs.Drawing.{done_by}
use Rattle.worker_pool.specs.Joining.{InOrder}
use Rattle.worker_pool.specs.Pool.{Gathered}
use Rattle.munge_types.specs.declared.history.Event.{Event}
use Rattle.worker_pool.specs.Standing.{HasServed}
use Rattle.worker_pool.specs.Work.{Work}
use Rattle.worker_pool.specs.declared.job.Done.{Done}
use Rattle.worker_pool.specs.declared.pool.Batch.{Batch}
use Rattle.worker_pool.proofs.Deals.{default_free, share_mine, share_other}
use Rattle.worker_pool.proofs.Drawings.{range_push, filter-reverse}

-- ---- lists

not_true : (b : Bool) → (b ≡ true → ⊥) → b ≡ false
not_true true never = absurd (never refl)
not_true false never = refl

snoc_same : (xs ys : List ℕ) (a b : ℕ) → xs ++ a ∷ [] ≡ ys ++ b ∷ [] → (xs ≡ ys) × (a ≡ b)
snoc_same [] [] a b e = (refl, (cc))
snoc_same [] (y ∷ ys) a b e = let n = ap length e in let l = length-append ys (b ∷ []) in absurd (omega arith)
snoc_same (x ∷ xs) [] a b e = let n = ap length e in let l = length-append xs (a ∷ []) in absurd (omega arith)
snoc_same (x ∷ xs) (y ∷ ys) a b e =
    let rest : xs ++ a ∷ [] ≡ ys ++ b ∷ [] = cc in
    let same = snoc_same xs ys a b rest in
    let first : x ≡ y = cc in
    let others = same.0 in ((cc), same.1)

pub map-reverse : {A B : Type 0} (f : A → B) (xs : List A) → map f (reverse xs) ≡ reverse (map f xs)
map-reverse f [] = refl
map-reverse f (x ∷ xs) =
    ap (map f) (reverse-append (x ∷ []) xs) ∙ (map-append f (reverse xs) (x ∷ []) ∙ (ap (λ l. l ++ f x ∷ []) (map-reverse f xs) ∙ sym (reverse-append (f x ∷ []) (map f xs))))

sum_by-reverse : {A : Type 0} (f : A → ℕ) (xs : List A) → sum_by f (reverse xs) ≡ sum_by f xs
sum_by-reverse f [] = refl
sum_by-reverse f (x ∷ xs) =
    let rest = sum_by-reverse f xs in
    let one = sum_by-cons f x xs in
    let two = sum_by_push f (reverse xs) x in
    ap (sum_by f) (reverse-append (x ∷ []) xs) ∙ omega arith

pub All-reverse : {A : Type 0} (P : A → Type 0) (xs : List A) → All P xs → All P (reverse xs)
All-reverse P [] all = all
All-reverse P (x ∷ xs) all =
    subst (All P) (sym (reverse-append (x ∷ []) xs)) (All-push P (reverse xs) x (All-reverse P xs (All-tail P x xs all)) (All-head P x xs all))

-- ---- the batch of the last job

pub its_share : {L C : Type 0} (batches : List (Batch L C)) (workers n at left : ℕ) (was : Batch L C) → at ≡ workers - 1 - n % workers → 0 < workers → left ≡ n + 1
    → InOrder left workers 0 batches → numbers_of (get_or batches at was).done.items ≡ share_of (n % workers) workers n ++ n ∷ []
its_share batches workers n at left was at_is some is order =
    subst (λ m. numbers_of (get_or batches m was).done.items ≡ share_of (n % workers) workers n ++ n ∷ []) (sym at_is)
    (order (n % workers) was (omega arith) (omega arith) ∙ (ap (share_of (n % workers) workers) is ∙ share_mine (n % workers) workers n refl))

pub never_empty : {L C : Type 0} (done : List (Done L C)) (numbers : List ℕ) (n : ℕ) → length done ≡ 0 → numbers_of done ≡ numbers ++ n ∷ [] → ⊥
never_empty {L} {C} done numbers n none is =
    let a = length-map done (λ (d : Done L C). d.job) in
    let b = ap length is in
    let c = length-append numbers (n ∷ []) in omega arith

module _ {L C : Type 0} (batches : List (Batch L C)) (workers n at : ℕ) (was new : Batch L C) (one : Done L C) (same : length batches ≡ workers) (at_is : at ≡ workers - 1 - n % workers)
    (some : 0 < workers) where
  pub order_less : (left : ℕ) → left ≡ n + 1 → (get_or batches at was).done.items ≡ new.done.items ++ one ∷ [] → InOrder left workers 0 batches
      → InOrder n workers 0 (set batches at new) × (one.job ≡ n)
  order_less left is popped order =
      let worker = n % workers in
      let both = snoc_same (numbers_of new.done.items) (share_of worker workers n) one.job n
      (sym (map-append (λ (d : Done L C). d.job) new.done.items (one ∷ [])) ∙ (ap numbers_of (sym popped) ∙ its_share batches workers n at left was at_is some is order)) in (
        λ k e low high.
            dite (ℕ_discrete k worker)
            (λ here.
            let place : workers - 1 - k ≡ at = omega arith in
            let there : get_or (set batches at new) (workers - 1 - k) e ≡ new =
            ap (λ m. get_or (set batches at new) m e) place ∙ get_or-set_same batches at new e (omega arith) in
            subst (λ (b : Batch L C). numbers_of b.done.items ≡ share_of k workers n) (sym there)
            (subst (λ m. numbers_of new.done.items ≡ share_of m workers n) (sym here) both.0))
            (λ other.
            let apart : workers - 1 - k ≡ at → ⊥ = λ e. other (omega arith) in
            let there = get_or-set_other batches at (workers - 1 - k) new e apart in
            subst (λ (b : Batch L C). numbers_of b.done.items ≡ share_of k workers n) (sym there)
            (order k e low high ∙ (ap (share_of k workers) is ∙ share_other k workers n (λ e. other (sym e))))),
        both.1,
      )

  pub weighs_less : (weight : Done L C → ℕ) (done : List (Done L C)) → (get_or batches at was).done.items ≡ new.done.items ++ one ∷ []
      → sum_by weight (done ++ one ∷ []) + sum_by (λ b. sum_by weight b.done.items) (set batches at new)
      ≡ sum_by weight done + sum_by (λ b. sum_by weight b.done.items) batches
  weighs_less weight done popped =
      let a = sum_by_push weight done one in
      let b = sum_by-set (λ (b : Batch L C). sum_by weight b.done.items) batches at new was (omega arith) in
      let c : sum_by weight (get_or batches at was).done.items ≡ sum_by weight new.done.items + weight one =
      ap (sum_by weight) popped ∙ sum_by_push weight new.done.items one in omega arith

  pub each_less : (P : Done L C → Type 0) (done : List (Done L C)) → (get_or batches at was).done.items ≡ new.done.items ++ one ∷ []
      → All (λ b. All P b.done.items) batches × All P done → All (λ b. All P b.done.items) (set batches at new) × All P (done ++ one ∷ [])
  each_less P done popped both =
      let mine : All P (get_or batches at was).done.items = All-get_or (λ (b : Batch L C). All P b.done.items) batches at was (omega arith) both.0 in
      let parts = All-pop P (get_or batches at was).done.items new.done.items (Some one) popped mine in (
        All-set (λ (b : Batch L C). All P b.done.items) batches at new parts.0 both.0,
        All-push P done one both.1 parts.1,
      )

  -- what a worker's batch still has, and then what was gathered of its jobs, the last one first
  pub by_worker_less : (k : ℕ) (e : Batch L C) (whole done : List (Done L C)) → k < workers → one.job ≡ n
      → (get_or batches at was).done.items ≡ new.done.items ++ one ∷ []
      → (get_or batches (workers - 1 - k) e).done.items ++ reverse (done_by k workers done) ≡ whole
      → (get_or (set batches at new) (workers - 1 - k) e).done.items ++ reverse (done_by k workers (done ++ one ∷ [])) ≡ whole
  by_worker_less k e whole done below is popped before =
      let test : Done L C → Bool = λ d. nat_eq (d.job % workers) k in
      let split : done_by k workers (done ++ one ∷ []) ≡ done_by k workers done ++ filter test (one ∷ []) = filter-append test done (one ∷ []) in
      dite (ℕ_discrete k (n % workers))
      (λ here.
      let mine : test one ≡ true = (Decides-eqb (one.job % workers) k).1 (ap (λ m. m % workers) is ∙ sym here) in
      let its : filter test (one ∷ []) ≡ one ∷ [] = rw mine refl in
      let place : workers - 1 - k ≡ at = omega arith in
      let old_there : get_or batches (workers - 1 - k) e ≡ get_or batches at was =
      ap (λ m. get_or batches m e) place ∙ default_free batches at e was (omega arith) in
      let there : get_or (set batches at new) (workers - 1 - k) e ≡ new =
      ap (λ m. get_or (set batches at new) m e) place ∙ get_or-set_same batches at new e (omega arith) in
      let more : reverse (done_by k workers (done ++ one ∷ [])) ≡ one ∷ reverse (done_by k workers done) =
      ap reverse (split ∙ ap (λ l. done_by k workers done ++ l) its) ∙ reverse-append (done_by k workers done) (one ∷ []) in
      ap (λ (b : Batch L C). b.done.items ++ reverse (done_by k workers (done ++ one ∷ []))) there
      ∙ (ap (λ l. new.done.items ++ l) more
      ∙ (sym (append_assoc new.done.items (one ∷ []) (reverse (done_by k workers done)))
      ∙ (ap (λ l. l ++ reverse (done_by k workers done)) (sym popped ∙ sym (ap (λ (b : Batch L C). b.done.items) old_there)) ∙ before))))
      (λ other.
      let apart : workers - 1 - k ≡ at → ⊥ = λ same. other (omega arith) in
      let not_mine : test one ≡ false = not_true (test one) (λ yes. other (sym (sym (ap (λ m. m % workers) is) ∙ (Decides-eqb (one.job % workers) k).0 yes))) in
      let its : filter test (one ∷ []) ≡ [] = rw not_mine refl in
      let there = get_or-set_other batches at (workers - 1 - k) new e apart in
      let same : done_by k workers (done ++ one ∷ []) ≡ done_by k workers done = split ∙ (ap (λ l. done_by k workers done ++ l) its ∙ append-nil (done_by k workers done)) in
      ap (λ (b : Batch L C). b.done.items ++ reverse (done_by k workers (done ++ one ∷ []))) there
      ∙ (ap (λ l. (get_or batches (workers - 1 - k) e).done.items ++ reverse l) same ∙ before))

pub numbers_less : {L C : Type 0} (n count : ℕ) (done : List (Done L C)) (one : Done L C) → one.job ≡ n → range_with_len 0 (n + 1) ++ reverse (numbers_of done) ≡ range_with_len 0 count
    → range_with_len 0 n ++ reverse (numbers_of (done ++ one ∷ [])) ≡ range_with_len 0 count
numbers_less {L} {C} n count done one is before =
    let e : suc n ≡ n + 1 = omega arith in
    let z : 0 + n ≡ n = omega arith in
    let range : range_with_len 0 (n + 1) ≡ range_with_len 0 n ++ n ∷ [] =
    ap (range_with_len 0) (sym e) ∙ (range_push 0 n ∙ ap (λ m. range_with_len 0 n ++ m ∷ []) z) in
    let more : reverse (numbers_of (done ++ one ∷ [])) ≡ n ∷ reverse (numbers_of done) =
    ap reverse (map-append (λ (d : Done L C). d.job) done (one ∷ [])) ∙ (reverse-append (numbers_of done) (one.job ∷ []) ∙ ap (λ m. m ∷ reverse (numbers_of done)) is) in
    ap (λ l. range_with_len 0 n ++ l) more
    ∙ (sym (append_assoc (range_with_len 0 n) (n ∷ []) (reverse (numbers_of done))) ∙ (ap (λ l. l ++ reverse (numbers_of done)) (sym range) ∙ before))

-- ---- all are gathered

map_none : {A B : Type 0} (f : A → B) (xs : List A) → map f xs ≡ [] → xs ≡ []
map_none f [] e = refl
map_none f (x ∷ xs) e = absurd (cc)

nothing_weighs : {L C : Type 0} (weight : Done L C → ℕ) (batches : List (Batch L C)) → ((i : ℕ) (e : Batch L C) → i < length batches → (get_or batches i e).done.items ≡ [])
    → sum_by (λ b. sum_by weight b.done.items) batches ≡ 0
nothing_weighs weight [] none = refl
nothing_weighs {L} {C} weight (b ∷ bs) none =
    let rest = nothing_weighs weight bs (λ i e within. none (suc i) e (omega arith)) in
    let here : sum_by weight b.done.items ≡ 0 = ap (sum_by weight) (none 0 b (omega arith)) in
    let one = sum_by-cons (λ (b : Batch L C). sum_by weight b.done.items) b bs in omega arith

all_empty : {L C : Type 0} (workers : ℕ) (batches : List (Batch L C)) → length batches ≡ workers → InOrder 0 workers 0 batches
    → (i : ℕ) (e : Batch L C) → i < workers → (get_or batches i e).done.items ≡ []
all_empty {L} {C} workers batches same order i e within =
    let k = workers - 1 - i in
    let at : workers - 1 - (workers - 1 - i) ≡ i = omega arith in
    map_none (λ (d : Done L C). d.job) (get_or batches i e).done.items
    (subst (λ m. numbers_of (get_or batches m e).done.items ≡ []) at (order (workers - 1 - i) e (omega arith) (omega arith)))

pub all_gathered : {L C : Type 0} (count : ℕ) (old batches : List (Batch L C)) (done : List (Done L C)) → length batches ≡ length old
    → InOrder 0 (length old) 0 batches
    → range_with_len 0 0 ++ reverse (numbers_of done) ≡ range_with_len 0 count
    → ((work : Work L C) (history : List Event) (bound : ℕ) → All (λ b. All (HasServed work history bound) b.done.items) old
    → All (λ b. All (HasServed work history bound) b.done.items) batches × All (HasServed work history bound) done)
    → ((weight : Done L C → ℕ) → sum_by weight done + sum_by (λ b. sum_by weight b.done.items) batches ≡ sum_by (λ b. sum_by weight b.done.items) old)
    → ((k : ℕ) (e : Batch L C) → k < length old → (get_or batches (length old - 1 - k) e).done.items ++ reverse (done_by k (length old) done)
    ≡ (get_or old (length old - 1 - k) e).done.items)
    → Gathered count old (reverse done)
all_gathered {L} {C} count old batches done same order numbers each weighs by_worker = record {
  in_order = map-reverse (λ (d : Done L C). d.job) done ∙ numbers;
  each = λ work history bound all. All-reverse (HasServed work history bound) done (each work history bound all).1;
  weighs = λ weight.
      let a = sum_by-reverse weight done in
      let b = nothing_weighs weight batches (λ i e within. all_empty (length old) batches same order i e (omega arith)) in
      let c = weighs weight in omega arith;
  by_worker = λ k e within.
      filter-reverse (λ (d : Done L C). nat_eq (d.job % length old) k) done
      ∙ (ap (λ l. l ++ reverse (done_by k (length old) done)) (sym (all_empty (length old) batches same order (length old - 1 - k) e (omega arith)))
      ∙ by_worker k e within);
}
