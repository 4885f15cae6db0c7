-- What a pass has done, as its history grows, and with an item more.
use Rattle.std.proofs.Common.{◌≡◌, ℕ, ◌+◌, ◌≤◌, nat_eq, Bool, true, false, ◌||◌, List, [], ◌∷◌, ◌++◌, length, take, zero, suc, Option, Some, None, sym, ap, ◌∙◌, refl, subst, arith, add-zero, zero-add}
use Rattle.std.specs.List.{slice_get}
use Rattle.std.proofs.lemmas.Bool.{true≢false}
use Rattle.std.proofs.lemmas.Bool.Decides.{Decides-eqb}
use Rattle.std.proofs.lemmas.List.{append-nil}
use Rattle.std.proofs.lemmas.List.Elements.{All-nil, All-push, All-weaker}
use Rattle.std.proofs.lemmas.List.Sums.{sum_by_push}
use Rattle.munge_types.specs.declared.history.Event.{Event}
use Rattle.replay_gate.specs.GoesOn.{GoesOn}
use Rattle.replay_gate.specs.Makers.{maker, is_of, any_by}
use Rattle.replay_gate.specs.PassState.{PassState}
use Rattle.worker_pool.specs.Account.{at_place, made_by, Account}
use Rattle.worker_pool.specs.Entering.{Moves}

-- ---- lists

pub neither : (a b : Bool) → (a || b) ≡ false → (a ≡ false) × (b ≡ false)
neither true b h = absurd (true≢false h)
neither false b h = (refl, h)

pub get_append : {A : Type 0} (xs ys : List A) (i : ℕ) (x : A) → slice_get xs i ≡ Some x → slice_get (xs ++ ys) i ≡ Some x
get_append [] ys i x e = cc
get_append (y ∷ xs) ys zero x e = e
get_append (y ∷ xs) ys (suc i) x e = get_append xs ys i x e

pub get_end : {A : Type 0} (xs : List A) (x : A) → slice_get (xs ++ x ∷ []) (length xs) ≡ Some x
get_end [] x = refl
get_end (y ∷ xs) x = get_end xs x

pub take_front : {A : Type 0} (xs ys : List A) → take (length xs) (xs ++ ys) ≡ xs
take_front [] ys = refl
take_front (x ∷ xs) ys = ap (λ l. x ∷ l) (take_front xs ys)

-- ---- the entries of a pass

pub made_by-append : (weight : ℕ → ℕ) (number at : ℕ) (xs ys : List Event)
    → made_by weight number at (xs ++ ys) ≡ made_by weight number at xs + made_by weight number (at + length xs) ys
made_by-append weight number at [] ys =
    let same : at + 0 ≡ at = omega arith in
    subst (λ k. made_by weight number at ys ≡ 0 + made_by weight number k ys) (sym same) (omega arith)
made_by-append weight number at (x ∷ xs) ys =
    let h = made_by-append weight number (at + 1) xs ys in
    let same : at + 1 + length xs ≡ at + suc (length xs) = omega arith in
    let g = subst (λ k. made_by weight number (at + 1) (xs ++ ys) ≡ made_by weight number (at + 1) xs + made_by weight number k ys) same h in
    omega arith

pub made_by-others : (weight : ℕ → ℕ) (number at : ℕ) (events : List Event) → any_by (number ∷ []) events ≡ false
    → made_by weight number at events ≡ 0
made_by-others weight number at [] none = refl
made_by-others weight number at (event ∷ events) none =
    let parts = neither (is_of (number ∷ []) (maker event)) (any_by (number ∷ []) events) none in
    let other = (neither (nat_eq (maker event) number) false parts.0).0 in
    let rest = made_by-others weight number (at + 1) events parts.1 in
    rw other (rw rest refl)

-- ---- an account

module _ {X : Type 0} (place_of : X → Option ℕ) (stands : List Event → ℕ → X → Type 0)
    (longer : (seen more : List Event) (bound higher : ℕ) (x : X) → bound ≤ higher → stands seen bound x → stands (seen ++ more) higher x) where
  pub account_none : (number bound : ℕ) → Account place_of stands number [] bound []
  account_none number bound = record { each = All-nil (stands [] bound); account = λ weight. refl }

  pub account_longer : (number : ℕ) (seen history : List Event) (bound higher : ℕ) (items : List X) → bound ≤ higher
      → GoesOn (number ∷ []) seen history → Account place_of stands number seen bound items → Account place_of stands number history higher items
  account_longer number seen history bound higher items below on has =
      subst (λ l. Account place_of stands number l higher items) (sym on.longer_is) record {
        each = All-weaker (stands seen bound) (stands (seen ++ on.others) higher) (λ x at. longer seen on.others bound higher x below at) items has.each;
        account = λ weight.
            let a = has.account weight in
            let b = made_by-append weight number 0 seen on.others in
            let c = made_by-others weight number (0 + length seen) on.others on.of_others in
            omega arith;
      }

  higher_bound : (number : ℕ) (seen : List Event) (bound higher : ℕ) (items : List X) → bound ≤ higher → Account place_of stands number seen bound items
      → Account place_of stands number seen higher items
  higher_bound number seen bound higher items below has = record {
    each = All-weaker (stands seen bound) (stands seen higher)
        (λ x at. subst (λ l. stands l higher x) (append-nil seen) (longer seen [] bound higher x below at)) items has.each;
    account = has.account;
  }

  account_entry : (number : ℕ) (before : List Event) (entry : Event) (bound : ℕ) (items : List X) (x : X) → maker entry ≡ number
      → place_of x ≡ Some (length before) → stands (before ++ entry ∷ []) bound x → Account place_of stands number before bound items
      → Account place_of stands number (before ++ entry ∷ []) bound (items ++ x ∷ [])
  account_entry number before entry bound items x by place at has = record {
    each = All-push (stands (before ++ entry ∷ []) bound) items x
        (All-weaker (stands before bound) (stands (before ++ entry ∷ []) bound) (λ y h. longer before (entry ∷ []) bound bound y (omega arith) h) items has.each) at;
    account = λ weight.
        let a = has.account weight in
        let b = made_by-append weight number 0 before (entry ∷ []) in
        let c = sum_by_push (λ (y : X). at_place weight (place_of y)) items x in
        let same : nat_eq (maker entry) number ≡ true = (Decides-eqb (maker entry) number).1 by in
        let one : made_by weight number (0 + length before) (entry ∷ []) ≡ weight (length before) =
        rw same (add-zero (weight (0 + length before)) ∙ ap weight (zero-add (length before))) in
        let there : at_place weight (place_of x) ≡ weight (length before) = ap (at_place weight) place in
        omega arith;
  }

  -- an item more, after a call that moved the pass as the item's place says
  pub account_more : (old new : PassState) (items : List X) (x : X) (rule place : Option ℕ) → place_of x ≡ place → old.numbers ≡ old.number ∷ []
      → Moves old new rule place → stands new.seen new.highest x → Account place_of stands old.number old.seen old.highest items
      → Account place_of stands new.number new.seen new.highest (items ++ x ∷ [])
  account_more old new items x rule (Some place) is alone moves at has =
      let enters = moves.enters in
      let on = subst (λ l. GoesOn l old.seen moves.before) alone enters.goes_on in
      let before = account_longer old.number old.seen moves.before old.highest new.highest items enters.not_below on has in
      let seen : new.seen ≡ moves.before ++ moves.entry ∷ [] = ap (λ (z : PassState). z.seen) enters.after_is in
      let all = account_entry old.number moves.before moves.entry new.highest items x moves.by (is ∙ ap (λ k. Some k) moves.place_is)
      (subst (λ l. stands l new.highest x) seen at) before in
      subst (λ n. Account place_of stands n new.seen new.highest (items ++ x ∷ [])) (sym (ap (λ (z : PassState). z.number) enters.after_is))
      (subst (λ l. Account place_of stands old.number l new.highest (items ++ x ∷ [])) (sym seen) all)
  account_more old new items x rule None is alone moves at has =
      let seen : new.seen ≡ old.seen = ap (λ (z : PassState). z.seen) moves.after_is in
      let before = higher_bound old.number old.seen old.highest new.highest items moves.not_below has in
      let all : Account place_of stands old.number old.seen new.highest (items ++ x ∷ []) = record {
        each = All-push (stands old.seen new.highest) items x before.each (subst (λ l. stands l new.highest x) seen at);
        account = λ weight.
            let a = has.account weight in
            let c = sum_by_push (λ (y : X). at_place weight (place_of y)) items x in
            let none : at_place weight (place_of x) ≡ 0 = ap (at_place weight) is in
            omega arith;
      } in
      subst (λ n. Account place_of stands n new.seen new.highest (items ++ x ∷ [])) (sym (ap (λ (z : PassState). z.number) moves.after_is))
      (subst (λ l. Account place_of stands old.number l new.highest (items ++ x ∷ [])) (sym seen) all)
