-- Lists in which no element equals a later one.
use Rattle.std.proofs.Common.{◌≡◌, Bool, true, false, ◌||◌, cond, List, [], ◌∷◌, ◌++◌, sym, refl}
use Rattle.std.specs.List.{IsDistinct, AllByRecursion, list_any, filter}
use Rattle.std.proofs.lemmas.Map.Keys.{IsDistinct-cons, IsDistinct-head, IsDistinct-tail, IsDistinct-IsPermutation}
use Rattle.std.proofs.lemmas.List.Sorted.{IsPermutation-to_front, IsPermutation-sym}

-- two tests that pass together are one
pub both_true : (a b : Bool) → (a ≡ true → b ≡ true) → (b ≡ true → a ≡ true) → a ≡ b
both_true true b to from = sym (to refl)
both_true false true to from = from refl
both_true false false to from = refl

neither : (a b : Bool) → (a || b) ≡ false → (a ≡ false) × (b ≡ false)
neither true b h = cc
neither false b h = (refl, h)

-- a test that no element passes fails at each
none_passes : {X : Type 0} (test : X → Bool) (xs : List X) → list_any test xs ≡ false
    → AllByRecursion (λ x. test x ≡ false) xs
none_passes test [] h = tt
none_passes test (x ∷ xs) h =
    let parts = neither (test x) (list_any test xs) h in (parts.0, none_passes test xs parts.1)

module _ {X : Type 0} (equals : X → X → Bool) where
  -- an element that equals none before it may be added
  pub IsDistinct-push : (flips : (x y : X) → equals x y ≡ equals y x) (xs : List X) (x : X)
      → list_any (equals x) xs ≡ false → IsDistinct equals xs → IsDistinct equals (xs ++ x ∷ [])
  IsDistinct-push flips xs x new distinct =
      IsDistinct-IsPermutation equals flips (x ∷ xs) (xs ++ x ∷ []) (IsPermutation-sym _ _ (IsPermutation-to_front xs x))
      (IsDistinct-cons equals x xs (none_passes (equals x) xs new) distinct)

-- what holds of each element holds of each that passes a test
kept_by_filter : {X : Type 0} (P : X → Type 0) (test : X → Bool) (xs : List X)
    → AllByRecursion P xs → AllByRecursion P (filter test xs)
kept_by_filter P test [] all = tt
kept_by_filter P test (x ∷ xs) all =
    elim (test x) as (λ b. AllByRecursion P (cond b (x ∷ filter test xs) (filter test xs))) [
      | true ↦ (all.0, kept_by_filter P test xs all.1)
      | false ↦ kept_by_filter P test xs all.1
    ]

-- a part of such a list is such a list
pub IsDistinct-filter : {X : Type 0} (equals : X → X → Bool) (test : X → Bool) (xs : List X)
    → IsDistinct equals xs → IsDistinct equals (filter test xs)
IsDistinct-filter equals test [] distinct = distinct
IsDistinct-filter equals test (x ∷ xs) distinct =
    let rest = IsDistinct-filter equals test xs (IsDistinct-tail equals x xs distinct) in
    elim (test x) as (λ b. IsDistinct equals (cond b (x ∷ filter test xs) (filter test xs))) [
      | true ↦ IsDistinct-cons equals x (filter test xs) (kept_by_filter (λ y. equals x y ≡ false) test xs (IsDistinct-head equals x xs distinct)) rest
      | false ↦ rest
    ]
