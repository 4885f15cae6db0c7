-- Each connection that a telling door gave is once among all that was put, and nothing else is.
use Rattle.std.proofs.Common.{◌≡◌, ℕ, ◌+◌, ◌-◌, ◌<◌, ◌≤◌, nat_eq, Bool, true, false, ◌&&◌, cond, zero, suc, List, [], ◌∷◌, length, get_or, Option, Some, sym, ap, ◌∙◌, refl, subst, arith, length-append}
use Rattle.std.specs.List.{All, sum_by, count_by, slice_get}
use Rattle.std.specs.Prelude.{flat_map}
use Rattle.std.proofs.lemmas.Bool.Decides.{Decides-eqb}
use Rattle.std.proofs.lemmas.List.Elements.{All-nil, All-cons, All-head, All-tail, All-append, All-weaker}
use Rattle.std.proofs.lemmas.List.Sums.{sum_by-cons, sum_by-append}
use Rattle.std.proofs.lemmas.List.Concat.{flat_map-cons}
use mathlib.Core.Logic.{dite}
use native.Mathlib.Decide.{ℕ_discrete}
use Rattle.munge_types.specs.declared.identity.Identity.{Identity}
use Rattle.worker_pool.specs.Accepting.{DoorSight, PostsRan}
use Rattle.worker_pool.specs.Giving.{queued, numbered, IsOfPost}
use Rattle.worker_pool.specs.Turns.{is_turn, IsGiven}
use Rattle.worker_pool.specs.declared.post.Post.{Post}
use Rattle.worker_pool.specs.declared.post.Queued.{Queued}
use Rattle.worker_pool.proofs.Account.{get_append}

-- ---- lists of lists

module _ {W : Type 0} where
  sum_flat : (f : W → ℕ) (puts : List (List W))
      → sum_by f (flat_map (λ l. l) puts) ≡ sum_by (sum_by f) puts
  sum_flat f [] = refl
  sum_flat f (l ∷ puts) =
      let rest = sum_flat f puts in
      let a = sum_by-append f l (flat_map (λ l. l) puts) in
      let b = sum_by-cons (sum_by f) l puts in
      ap (sum_by f) (flat_map-cons (λ (l : List W). l) l puts) ∙ omega arith

  none_else : (g : List W → ℕ) (puts : List (List W))
      → ((q : ℕ) (l : List W) → q < length puts → g (get_or puts q l) ≡ 0) → sum_by g puts ≡ 0
  none_else g [] none = refl
  none_else g (l ∷ puts) none =
      let a = sum_by-cons g l puts in
      let b = none 0 l (omega arith) in
      let c = none_else g puts (λ q m within. none (suc q) m (omega arith)) in omega arith

  only_one : (g : List W → ℕ) (puts : List (List W)) (p : ℕ) (l : List W) → p < length puts
      → ((q : ℕ) (l : List W) → q < length puts → (q ≡ p → ⊥) → g (get_or puts q l) ≡ 0)
      → sum_by g puts ≡ g (get_or puts p l)
  only_one g [] p l within none = absurd (omega arith)
  only_one g (x ∷ puts) zero l within none =
      let a = sum_by-cons g x puts in
      let c = none_else g puts
      (λ q m w. none (suc q) m (omega arith) (λ e. absurd (omega arith))) in
      omega arith
  only_one g (x ∷ puts) (suc p) l within none =
      let a = sum_by-cons g x puts in
      let b = none 0 l (omega arith) (λ e. absurd (omega arith)) in
      let c = only_one g puts p l (omega arith)
      (λ q m w apart. none (suc q) m (omega arith) (λ e. apart (omega arith))) in
      omega arith

  all_flat : (P : W → Type 0) (puts : List (List W))
      → ((q : ℕ) (l : List W) → q < length puts → All P (get_or puts q l))
      → All P (flat_map (λ l. l) puts)
  all_flat P [] each = All-nil P
  all_flat P (l ∷ puts) each =
      subst (All P) (sym (flat_map-cons (λ (l : List W). l) l puts))
      (All-append P l (flat_map (λ l. l) puts) (each 0 l (omega arith))
      (all_flat P puts (λ q m within. each (suc q) m (omega arith))))

some_of : {X : Type 0} (xs : List X) (q : ℕ) → q < length xs → X
some_of [] q within = absurd (omega arith)
some_of (x ∷ xs) q within = x

-- ---- one door

false_of : (a b : ℕ) → (a ≡ b → ⊥) → nat_eq a b ≡ false
false_of a b apart = by_case (nat_eq a b) (Decides-eqb a b).0
  where
    by_case : (z : Bool) → (z ≡ true → a ≡ b) → z ≡ false
    by_case true equal = absurd (apart (equal refl))
    by_case false equal = refl

and_false : (b : Bool) → (b && false) ≡ false
and_false true = refl
and_false false = refl

module _ {C : Type 0} where
  not_here : (p k : ℕ) (puts : List (Queued C)) → All (λ item. is_turn p k item ≡ false) puts
      → count_by (is_turn p k) puts ≡ 0
  not_here p k [] none = refl
  not_here p k (x ∷ puts) none =
      let a = sum_by-cons (λ (x : Queued C). cond {A = ℕ} (is_turn p k x) 1 0) x puts in
      let b : cond {A = ℕ} (is_turn p k x) 1 0 ≡ 0 =
      ap (λ z. cond {A = ℕ} z 1 0)
      (All-head (λ (x : Queued C). is_turn p k x ≡ false) x puts none) in
      let c = not_here p k puts (All-tail (λ (x : Queued C). is_turn p k x ≡ false) x puts none) in
      omega arith

  other_post : (p k : ℕ) (x : Queued C) → (x.waiting.post ≡ p → ⊥) → is_turn p k x ≡ false
  other_post p k x apart =
      ap (λ b. b && nat_eq x.waiting.turn k) (false_of x.waiting.post p apart)

  -- the item at this turn has this place among the door's connections
  InPlace : (at : ℕ) → List C → Queued C → Type 0
  InPlace at conns x = (at ≤ x.waiting.turn) × (x.waiting.turn < at + length conns)
      × (slice_get conns (x.waiting.turn - at) ≡ Some x.waiting.conn)

  module _ (who : Identity) where
    later_turn : (p k q a : ℕ) (conns : List C) → k < a
        → count_by (is_turn p k) (numbered who q a conns) ≡ 0
    later_turn p k q a [] past = refl
    later_turn p k q a (conn ∷ conns) past =
        let x : Queued C = queued who q a conn in
        let s = sum_by-cons (λ (x : Queued C). cond {A = ℕ} (is_turn p k x) 1 0) x
        (numbered who q (a + 1) conns) in
        let no : is_turn p k x ≡ false =
        ap (λ b. nat_eq q p && b) (false_of a k (λ e. absurd (omega arith)))
        ∙ and_false (nat_eq q p) in
        let b : cond {A = ℕ} (is_turn p k x) 1 0 ≡ 0 = ap (λ z. cond {A = ℕ} z 1 0) no in
        let c = later_turn p k q (a + 1) conns (omega arith) in omega arith

    once_in : (p k a : ℕ) (conns : List C) → a ≤ k → k < a + length conns
        → count_by (is_turn p k) (numbered who p a conns) ≡ 1
    once_in p k a [] low high = absurd (omega arith)
    once_in p k a (conn ∷ conns) low high =
        let x : Queued C = queued who p a conn in
        let s = sum_by-cons (λ (x : Queued C). cond {A = ℕ} (is_turn p k x) 1 0) x
        (numbered who p (a + 1) conns) in
        dite (ℕ_discrete a k)
        (λ here.
        let e : nat_eq a k ≡ true = (Decides-eqb a k).1 here in
        let one : cond {A = ℕ} (nat_eq p p && nat_eq a k) 1 0 ≡ 1 =
        ap (λ z. cond {A = ℕ} (z && nat_eq a k) 1 0) ((Decides-eqb p p).1 refl)
        ∙ ap (λ z. cond {A = ℕ} z 1 0) e in
        let rest = later_turn p k p (a + 1) conns (omega arith) in omega arith)
        (λ apart.
        let e = false_of a k apart in
        let none : cond {A = ℕ} (nat_eq p p && nat_eq a k) 1 0 ≡ 0 =
        ap (λ z. cond {A = ℕ} (nat_eq p p && z) 1 0) e
        ∙ ap (λ z. cond {A = ℕ} z 1 0) (and_false (nat_eq p p)) in
        let rest = once_in p k (a + 1) conns (omega arith) (omega arith) in omega arith)

    numbered_all : (q a : ℕ) (conns : List C) → All (InPlace a conns) (numbered who q a conns)
    unfolding InPlace
    numbered_all q a [] = All-nil (InPlace a [])
    numbered_all q a (conn ∷ conns) =
        let x : Queued C = queued who q a conn in
        let zero_is : a - a ≡ 0 = omega arith in
        All-cons (InPlace a (conn ∷ conns)) x (numbered who q (a + 1) conns)
        (omega arith, omega arith, ap (slice_get (conn ∷ conns)) zero_is)
        (All-weaker (InPlace (a + 1) conns) (InPlace a (conn ∷ conns))
        (λ x h.
        let low = h.0 in
        let high = h.1 in
        let next : x.waiting.turn - a ≡ suc (x.waiting.turn - (a + 1)) = omega arith in
        (omega arith, omega arith, ap (slice_get (conn ∷ conns)) next ∙ h.2))
        (numbered who q (a + 1) conns) (numbered_all q (a + 1) conns))

-- ---- all doors

module _ {D C : Type 0} (doors : DoorSight D C) (old new : List (Post D))
    (puts : List (List (Queued C))) (posts : PostsRan doors old new puts) where
  same_rest : (rest other : List C) (after : Option (List C)) → after ≡ Some rest
      → after ≡ Some other → rest ≡ other
  same_rest rest other after a b = cc

  -- a connection that a telling door gave as its k-th stands once among all that was put
  pub once_put : (p k : ℕ) (post : Post D) (conns rest : List C) → p < length old
      → doors.coming (get_or old p post).door ≡ Some conns
      → doors.coming (get_or new p post).door ≡ Some rest
      → k + length rest < length conns → count_by (is_turn p k) (flat_map (λ l. l) puts) ≡ 1
  once_put p k post conns rest within before after given =
      let count = posts.puts_each in
      let f : Queued C → ℕ = λ x. cond {A = ℕ} (is_turn p k x) 1 0 in
      let who = (get_or old p post).who in
      let ran = posts.each p post [] within in
      let told = ran.accepted.told conns before in
      let same = same_rest told.rest rest (doors.coming (get_or new p post).door)
      told.after_is after in
      let n = ap length told.conns_are in
      let a = length-append told.gave told.rest in
      let r = ap length same in
      let others = only_one (sum_by f) puts p [] (omega arith) (λ q l w apart.
      let there = posts.each q post l (omega arith) in
      not_here p k (get_or puts q l)
      (All-weaker (IsOfPost {C = C} (get_or old q post).who q)
      (λ (x : Queued C). is_turn p k x ≡ false)
      (λ x is. other_post p k x (λ e. apart (sym is.post_is ∙ e))) (get_or puts q l)
      there.accepted.of_post)) in
      let mine : sum_by f (get_or puts p []) ≡ 1 =
      ap (sum_by f) told.put_is ∙ once_in who p k 0 told.gave (omega arith) (omega arith) in
      sum_flat f puts ∙ (others ∙ mine)

  -- all that was put was given
  pub given_put : All (IsGiven doors old new) (flat_map (λ l. l) puts)
  unfolding InPlace
  given_put = all_flat (IsGiven doors old new) puts (λ q l within i none short.
      let count = posts.puts_each in
      let x = get_or (get_or puts q l) i none in
      let inside : q < length old = omega arith in
      let ran = posts.each q (some_of old q inside) l inside in
      let is : x.waiting.post ≡ q = (ran.accepted.of_post i none short).post_is in record {
        is_post = subst (λ z. z < length old) (sym is) inside;
        who_is = λ post.
            let ran = posts.each q post l inside in
            (ran.accepted.of_post i none short).who_is ∙ ap (λ z. (get_or old z post).who) (sym is);
        told = λ post conns rest before after.
            let ran = posts.each q post l inside in
            let who = (get_or old q post).who in
            let told = ran.accepted.told conns
            (subst (λ z. doors.coming (get_or old z post).door ≡ Some conns) is before) in
            let same = same_rest told.rest rest (doors.coming (get_or new q post).door)
            told.after_is
            (subst (λ z. doors.coming (get_or new z post).door ≡ Some rest) is after) in
            let n = ap length told.conns_are in
            let a = length-append told.gave told.rest in
            let r = ap length same in
            let all = subst (All (InPlace 0 told.gave)) (sym told.put_is)
            (numbered_all who q 0 told.gave) in
            let at = all i none short in
            let high = at.1 in
            let zero_is : x.waiting.turn - 0 ≡ x.waiting.turn = omega arith in
            let got : slice_get told.gave x.waiting.turn ≡ Some x.waiting.conn =
            ap (slice_get told.gave) (sym zero_is) ∙ at.2 in (
              subst (λ l. slice_get l x.waiting.turn ≡ Some x.waiting.conn) (sym told.conns_are)
                  (get_append told.gave told.rest x.waiting.turn x.waiting.conn got),
              omega arith,
            );
      })
