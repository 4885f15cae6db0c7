-- Each move keeps the queue's rule.
use Rattle.std.proofs.Common.{◌≡◌, ℕ, ◌+◌, ◌-◌, ◌<◌, zero, suc, List, [], ◌∷◌, ◌++◌, set, sym, refl, ap, ◌∙◌, subst, append_assoc, arith}
use Rattle.std.specs.Prelude.{All, sum_by, flat_map, IsPermutation}
use Rattle.std.proofs.lemmas.List.{append-nil}
use Rattle.std.proofs.lemmas.List.Elements.{All-nil, All-cons, All-head, All-tail, All-push, All-set}
use Rattle.std.proofs.lemmas.List.Sums.{sum_by-cons, sum_by_push}
use Rattle.std.proofs.lemmas.List.Concat.{flat_map-cons, flat_map-append}
use Rattle.std.proofs.lemmas.List.Sorted.{IsPermutation-refl, IsPermutation-sym, IsPermutation-trans, IsPermutation-cons, IsPermutation-to_front, IsPermutation-append, IsPermutation-middle, IsPermutation-append_comm}
use mathlib.Core.Option.{some, some-ne-none}
use lib.ListN.{get_elem?}
use Rattle.crossbeam_queue.specs.Fifo.{Pushes, Pops, Forks, Merges, Learns}
use Rattle.worker_pool.specs.declared.queue.Ledger.{Ledger}
use Rattle.worker_pool.specs.Queue.{whole, ledger, puts_of, takens_of, IsIdle, Balanced, HasPut, HasTaken, IsTotal}

-- ---- one place of a list

module _ {V : Type 0} where
  same_there : (x v : V) → some x ≡ some v → x ≡ v
  same_there x v e = cc

  set_same : (views : List V) (port : ℕ) (v : V) → get_elem? views port ≡ some v
      → set views port v ≡ views
  set_same [] port v e = absurd (some-ne-none v (sym e))
  set_same (x ∷ xs) zero v e = ap (λ y. y ∷ xs) (sym (same_there x v e))
  set_same (x ∷ xs) (suc port) v e = ap (λ l. x ∷ l) (set_same xs port v e)

  total_set : (f : V → ℕ) (views : List V) (port : ℕ) (v w : V) → get_elem? views port ≡ some v
      → sum_by f (set views port w) + f v ≡ sum_by f views + f w
  total_set f [] port v w e = absurd (some-ne-none v (sym e))
  total_set f (x ∷ xs) zero v w e =
      let a = sum_by-cons f x xs in
      let b = sum_by-cons f w xs in
      let c : f x ≡ f v = ap f (same_there x v e) in omega arith
  total_set f (x ∷ xs) (suc port) v w e =
      let h = total_set f xs port v w e in
      let a = sum_by-cons f x xs in
      let b = sum_by-cons f x (set xs port w) in omega arith

-- ---- lists of lists

module _ {T : Type 0} where
  swap_front : (a b c : List T) → IsPermutation (a ++ (b ++ c)) (b ++ (a ++ c))
  swap_front a b c =
      subst (λ l. IsPermutation l (b ++ (a ++ c))) (append_assoc a b c)
      (subst (λ l. IsPermutation ((a ++ b) ++ c) l) (append_assoc b a c)
      (IsPermutation-append (a ++ b) (b ++ a) c c (IsPermutation-append_comm a b)
      (IsPermutation-refl c)))

  under_front : (a b c : List T) → IsPermutation b c → IsPermutation (a ++ b) (a ++ c)
  under_front a b c p = IsPermutation-append a a b c (IsPermutation-refl a) p

  past_end : (a : List T) (x : T) (b : List T) → IsPermutation ((a ++ x ∷ []) ++ b) (x ∷ (a ++ b))
  past_end a x b =
      IsPermutation-append (a ++ x ∷ []) (x ∷ a) b b (IsPermutation-to_front a x)
      (IsPermutation-refl b)

  module _ {V : Type 0} (f : V → List T) where
    flat_same : (views : List V) (port : ℕ) (v w : V) → get_elem? views port ≡ some v → f w ≡ f v
        → flat_map f (set views port w) ≡ flat_map f views
    flat_same [] port v w e same = absurd (some-ne-none v (sym e))
    flat_same (x ∷ xs) zero v w e same =
        flat_map-cons f w xs ∙ (ap (λ l. l ++ flat_map f xs) (same ∙ ap f (sym (same_there x v e)))
        ∙ sym (flat_map-cons f x xs))
    flat_same (x ∷ xs) (suc port) v w e same =
        flat_map-cons f x (set xs port w)
        ∙ (ap (λ l. f x ++ l) (flat_same xs port v w e same) ∙ sym (flat_map-cons f x xs))

    flat_push : (views : List V) (v : V) → f v ≡ []
        → flat_map f (views ++ v ∷ []) ≡ flat_map f views
    flat_push views v none =
        flat_map-append f views (v ∷ [])
        ∙ (ap (λ l. flat_map f views ++ l) (flat_map-cons f v [] ∙ ap (λ l. l ++ []) none)
        ∙ append-nil (flat_map f views))

    flat_head : (x : V) (xs : List V) (l m : List T) → IsPermutation (flat_map f xs) l
        → IsPermutation (f x ++ l) m → IsPermutation (flat_map f (x ∷ xs)) m
    flat_head x xs l m rest whole =
        subst (λ z. IsPermutation z m) (sym (flat_map-cons f x xs))
        (IsPermutation-trans (f x ++ flat_map f xs) (f x ++ l) m
        (under_front (f x) (flat_map f xs) l rest) whole)

    -- the list of one place stands before the rest
    around : (views : List V) (port : ℕ) (v : V) → get_elem? views port ≡ some v
        → (rest : List T) × ((w : V) → IsPermutation (flat_map f (set views port w)) (f w ++ rest))
    around [] port v e = absurd (some-ne-none v (sym e))
    around (x ∷ xs) zero v e = (
      flat_map f xs,
      λ w. subst (λ l. IsPermutation l (f w ++ flat_map f xs))
          (sym (flat_map-cons f w xs)) (IsPermutation-refl (f w ++ flat_map f xs)),
    )
    around (x ∷ xs) (suc port) v e =
        let r = around xs port v e in (
          f x ++ r.0,
          λ w. flat_head x (set xs port w) (f w ++ r.0) (f w ++ (f x ++ r.0)) (r.1 w)
              (swap_front (f x) (f w) r.0),
        )

    here : (views : List V) (port : ℕ) (v : V) → (at : get_elem? views port ≡ some v)
        → IsPermutation (flat_map f views) (f v ++ (around views port v at).0)
    here views port v at =
        subst (λ l. IsPermutation (flat_map f l) (f v ++ (around views port v at).0))
        (set_same views port v at) ((around views port v at).1 v)

    -- where one place gets an item more, all get it
    gains : (views : List V) (port : ℕ) (v w : V) (x : T) → get_elem? views port ≡ some v
        → f w ≡ f v ++ x ∷ []
        → IsPermutation (flat_map f (set views port w)) (x ∷ flat_map f views)
    gains views port v w x at more =
        let r = around views port v at in
        let a : IsPermutation (flat_map f (set views port w)) ((f v ++ x ∷ []) ++ r.0) =
        subst (λ l. IsPermutation (flat_map f (set views port w)) (l ++ r.0)) more (r.1 w) in
        let b = past_end (f v) x r.0 in
        let c = IsPermutation-cons x (f v ++ r.0) (flat_map f views)
        (IsPermutation-sym (flat_map f views) (f v ++ r.0) (here views port v at)) in
        IsPermutation-trans (flat_map f (set views port w)) ((f v ++ x ∷ []) ++ r.0)
        (x ∷ flat_map f views) a
        (IsPermutation-trans ((f v ++ x ∷ []) ++ r.0) (x ∷ (f v ++ r.0)) (x ∷ flat_map f views) b c)

    -- where one place takes in all that another had, nothing changes but the order
    joins : (views : List V) (port other : ℕ) (v u both spent : V) → get_elem? views port ≡ some v
        → ¬ (other ≡ port) → get_elem? (set views port both) other ≡ some u
        → f both ≡ f v ++ f u → f spent ≡ []
        → IsPermutation (flat_map f (set (set views port both) other spent)) (flat_map f views)
    joins [] port other v u both spent at apart there joined none = absurd (some-ne-none v (sym at))
    joins (x ∷ xs) zero zero v u both spent at apart there joined none = absurd (apart refl)
    joins (x ∷ xs) zero (suc other) v u both spent at apart there joined none =
        let r = around xs other u there in
        let after : IsPermutation (flat_map f (set xs other spent)) r.0 =
        subst (λ l. IsPermutation (flat_map f (set xs other spent)) (l ++ r.0)) none
        (r.1 spent) in
        let before = IsPermutation-sym (flat_map f xs) (f u ++ r.0) (here xs other u there) in
        let same : f both ++ r.0 ≡ f v ++ (f u ++ r.0) =
        ap (λ l. l ++ r.0) joined ∙ append_assoc (f v) (f u) r.0 in
        let all : IsPermutation (f both ++ r.0) (f v ++ flat_map f xs) =
        subst (λ l. IsPermutation l (f v ++ flat_map f xs)) (sym same)
        (under_front (f v) (f u ++ r.0) (flat_map f xs) before) in
        let is : f v ++ flat_map f xs ≡ flat_map f (x ∷ xs) =
        ap (λ z. f z ++ flat_map f xs) (sym (same_there x v at)) ∙ sym (flat_map-cons f x xs) in
        flat_head both (set xs other spent) r.0 (flat_map f (x ∷ xs)) after
        (subst (IsPermutation (f both ++ r.0)) is all)
    joins (x ∷ xs) (suc port) zero v u both spent at apart there joined none =
        let r = around xs port v at in
        let is : x ≡ u = same_there x u there in
        let first : flat_map f (spent ∷ set xs port both) ≡ flat_map f (set xs port both) =
        flat_map-cons f spent (set xs port both)
        ∙ ap (λ l. l ++ flat_map f (set xs port both)) none in
        let now : IsPermutation (flat_map f (set xs port both)) (f u ++ (f v ++ r.0)) =
        IsPermutation-trans (flat_map f (set xs port both)) (f both ++ r.0) (f u ++ (f v ++ r.0))
        (r.1 both)
        (subst (λ l. IsPermutation l (f u ++ (f v ++ r.0)))
        (sym (ap (λ l. l ++ r.0) joined ∙ append_assoc (f v) (f u) r.0))
        (swap_front (f v) (f u) r.0)) in
        let before : IsPermutation (f u ++ (f v ++ r.0)) (f u ++ flat_map f xs) =
        under_front (f u) (f v ++ r.0) (flat_map f xs)
        (IsPermutation-sym (flat_map f xs) (f v ++ r.0) (here xs port v at)) in
        let whole : f u ++ flat_map f xs ≡ flat_map f (x ∷ xs) =
        ap (λ z. f z ++ flat_map f xs) (sym is) ∙ sym (flat_map-cons f x xs) in
        subst (λ l. IsPermutation l (flat_map f (x ∷ xs))) (sym first)
        (IsPermutation-trans (flat_map f (set xs port both)) (f u ++ (f v ++ r.0))
        (flat_map f (x ∷ xs)) now (subst (IsPermutation (f u ++ (f v ++ r.0))) whole before))
    joins (x ∷ xs) (suc port) (suc other) v u both spent at apart there joined none =
        let h = joins xs port other v u both spent at (λ e. apart (ap suc e)) there joined none in
        flat_head x (set (set xs port both) other spent) (flat_map f xs) (flat_map f (x ∷ xs)) h
        (subst (IsPermutation (f x ++ flat_map f xs)) (sym (flat_map-cons f x xs))
        (IsPermutation-refl (f x ++ flat_map f xs)))

-- ---- the rule

module _ {T : Type 0} where
  pub begins : Balanced {T = T} [] (ledger whole [] [] ∷ [])
  begins = record {
    parts = refl;
    same = IsPermutation-refl [];
    idle = All-cons IsIdle (ledger whole [] []) [] (λ none. absurd (omega arith)) (All-nil IsIdle);
  }

  pub puts : (n port : ℕ) (v : Ledger T) (x : T) → 0 < v.parts
      → Pushes Balanced n port v x (HasPut v x)
  puts n port v x some_part items views room b at =
      let w : Ledger T = ledger v.parts (v.put ++ x ∷ []) v.taken in
      let puts = puts_of views in
      let taken = takens_of views in
      let more = gains (λ (u : Ledger T). u.put) views port v w x at refl in
      let under = IsPermutation-cons x puts (taken ++ items) b.same in
      let behind =
      IsPermutation-sym ((taken ++ items) ++ x ∷ []) (x ∷ (taken ++ items))
      (IsPermutation-to_front (taken ++ items) x) in
      let all =
      IsPermutation-trans (puts_of (set views port w)) (x ∷ puts)
      ((taken ++ items) ++ x ∷ []) more
      (IsPermutation-trans (x ∷ puts) (x ∷ (taken ++ items)) ((taken ++ items) ++ x ∷ [])
      under behind) in
      let same : (taken ++ items) ++ x ∷ [] ≡ takens_of (set views port w) ++ (items ++ x ∷ []) =
      append_assoc taken items (x ∷ [])
      ∙ ap (λ l. l ++ (items ++ x ∷ []))
      (sym (flat_same (λ (u : Ledger T). u.taken) views port v w at refl)) in (
        w,
        record {
          parts = (let s = total_set (λ (u : Ledger T). u.parts) views port v w at in
              let p = b.parts in omega arith);
          same = subst (IsPermutation (puts_of (set views port w))) same all;
          idle = All-set IsIdle views port w (λ none. absurd (omega arith)) b.idle;
        },
        refl,
      )

  pub takes : (port : ℕ) (v : Ledger T) → 0 < v.parts → Pops Balanced port v (HasTaken v)
  takes port v some_part x items views b at =
      let w : Ledger T = ledger v.parts v.put (v.taken ++ x ∷ []) in
      let taken = takens_of views in
      let more = gains (λ (u : Ledger T). u.taken) views port v w x at refl in
      let front = IsPermutation-middle taken x items in
      let back =
      IsPermutation-append (x ∷ taken) (takens_of (set views port w)) items items
      (IsPermutation-sym (takens_of (set views port w)) (x ∷ taken) more)
      (IsPermutation-refl items) in
      let all =
      IsPermutation-trans (puts_of views) (taken ++ x ∷ items)
      (takens_of (set views port w) ++ items) b.same
      (IsPermutation-trans (taken ++ x ∷ items) (x ∷ (taken ++ items))
      (takens_of (set views port w) ++ items) front back) in (
        w,
        record {
          parts = (let s = total_set (λ (u : Ledger T). u.parts) views port v w at in
              let p = b.parts in omega arith);
          same = subst (λ l. IsPermutation l (takens_of (set views port w) ++ items))
              (sym (flat_same (λ (u : Ledger T). u.put) views port v w at refl)) all;
          idle = All-set IsIdle views port w (λ none. absurd (omega arith)) b.idle;
        },
        refl,
      )

  pub forks : (port : ℕ) (v : Ledger T) → 1 < v.parts
      → Forks Balanced port v (ledger (v.parts - 1) v.put v.taken) (ledger 1 [] [])
  forks port v two items views b at =
      let left : Ledger T = ledger (v.parts - 1) v.put v.taken in
      let right : Ledger T = ledger 1 [] [] in
      let both = set views port left in
      let puts = flat_push (λ (u : Ledger T). u.put) both right refl
      ∙ flat_same (λ (u : Ledger T). u.put) views port v left at refl in
      let taken = flat_push (λ (u : Ledger T). u.taken) both right refl
      ∙ flat_same (λ (u : Ledger T). u.taken) views port v left at refl in record {
        parts = (let s = total_set (λ (u : Ledger T). u.parts) views port v left at in
            let p = b.parts in
            let q = sum_by_push (λ (u : Ledger T). u.parts) both right in omega arith);
        same = subst (λ l. IsPermutation l (takens_of (both ++ right ∷ []) ++ items)) (sym puts)
            (subst (λ l. IsPermutation (puts_of views) (l ++ items)) (sym taken) b.same);
        idle = All-push IsIdle both right
            (All-set IsIdle views port left (λ none. absurd (omega arith)) b.idle)
            (λ none. absurd (omega arith));
      }

  pub merges : (port : ℕ) (v : Ledger T) (other : ℕ) (u : Ledger T) → 0 < v.parts
      → Merges Balanced port v other u
      (ledger (v.parts + u.parts) (v.put ++ u.put) (v.taken ++ u.taken)) (ledger 0 [] [])
  merges port v other u some_part items views b at apart there =
      let both : Ledger T = ledger (v.parts + u.parts) (v.put ++ u.put) (v.taken ++ u.taken) in
      let spent : Ledger T = ledger 0 [] [] in
      let one = set views port both in
      let new = set one other spent in
      let puts = joins (λ (z : Ledger T). z.put) views port other v u both spent at apart there
      refl refl in
      let taken = joins (λ (z : Ledger T). z.taken) views port other v u both spent at apart there
      refl refl in record {
        parts = (let s = total_set (λ (z : Ledger T). z.parts) views port v both at in
            let t = total_set (λ (z : Ledger T). z.parts) one other u spent there in
            let p = b.parts in omega arith);
        same = IsPermutation-trans (puts_of new) (puts_of views) (takens_of new ++ items) puts
            (IsPermutation-trans (puts_of views) (takens_of views ++ items) (takens_of new ++ items)
            b.same
            (IsPermutation-append (takens_of views) (takens_of new) items items
            (IsPermutation-sym (takens_of new) (takens_of views) taken)
            (IsPermutation-refl items)));
        idle = All-set IsIdle one other spent (λ none. (refl, refl))
            (All-set IsIdle views port both (λ none. absurd (omega arith)) b.idle);
      }

  -- where no ledger has a part, none has anything
  nothing : (f : Ledger T → List T) → ((v : Ledger T) → v.parts ≡ 0 → IsIdle v → f v ≡ [])
      → (views : List (Ledger T)) → sum_by (λ v. v.parts) views ≡ 0 → All IsIdle views
      → flat_map f views ≡ []
  nothing f idle [] none all = refl
  nothing f idle (x ∷ xs) none all =
      let s = sum_by-cons (λ (v : Ledger T). v.parts) x xs in
      flat_map-cons f x xs
      ∙ (ap (λ l. l ++ flat_map f xs) (idle x (omega arith) (All-head IsIdle x xs all))
      ∙ nothing f idle xs (omega arith) (All-tail IsIdle x xs all))

  -- where one ledger has all parts, it has all
  sole : (f : Ledger T → List T) → ((v : Ledger T) → v.parts ≡ 0 → IsIdle v → f v ≡ [])
      → (views : List (Ledger T)) (port : ℕ) (v : Ledger T) → get_elem? views port ≡ some v
      → sum_by (λ u. u.parts) views ≡ v.parts → All IsIdle views → flat_map f views ≡ f v
  sole f idle [] port v at parts all = absurd (some-ne-none v (sym at))
  sole f idle (x ∷ xs) zero v at parts all =
      let s = sum_by-cons (λ (u : Ledger T). u.parts) x xs in
      let is = same_there x v at in
      let p : x.parts ≡ v.parts = ap (λ (u : Ledger T). u.parts) is in
      flat_map-cons f x xs
      ∙ (ap (λ l. f x ++ l) (nothing f idle xs (omega arith) (All-tail IsIdle x xs all))
      ∙ (append-nil (f x) ∙ ap f is))
  sole f idle (x ∷ xs) (suc port) v at parts all =
      let s = sum_by-cons (λ (u : Ledger T). u.parts) x xs in
      let low = at_least xs port v at in
      flat_map-cons f x xs
      ∙ (ap (λ l. l ++ flat_map f xs) (idle x (omega arith) (All-head IsIdle x xs all))
      ∙ sole f idle xs port v at (omega arith) (All-tail IsIdle x xs all))
    where
      at_least : (views : List (Ledger T)) (port : ℕ) (v : Ledger T) → get_elem? views port ≡ some v
          → v.parts + (sum_by (λ u. u.parts) views - v.parts) ≡ sum_by (λ u. u.parts) views
      at_least [] port v at = absurd (some-ne-none v (sym at))
      at_least (x ∷ xs) zero v at =
          let s = sum_by-cons (λ (u : Ledger T). u.parts) x xs in
          let p : x.parts ≡ v.parts = ap (λ (u : Ledger T). u.parts) (same_there x v at) in
          omega arith
      at_least (x ∷ xs) (suc port) v at = let s = sum_by-cons (λ (u : Ledger T). u.parts) x xs in
          let h = at_least xs port v at in omega arith

  pub learns : (port : ℕ) (v : Ledger T) → Learns Balanced port v (IsTotal v)
  learns port v items views b at all =
      let put =
      sole (λ (u : Ledger T). u.put) (λ u none idle. (idle none).0) views port v at
      (b.parts ∙ sym all) b.idle in
      let taken =
      sole (λ (u : Ledger T). u.taken) (λ u none idle. (idle none).1) views port v at
      (b.parts ∙ sym all) b.idle in
      subst (λ l. IsPermutation l (v.taken ++ items)) put
      (subst (λ l. IsPermutation (puts_of views) (l ++ items)) taken b.same)
