-- Lists read by `get_elem?`, and totals over them.
use Rattle.std.proofs.Common.{◌≡◌, ◌≢◌, ℕ, ◌+◌, ◌≤◌, ◌<◌, List, [], ◌∷◌, ◌++◌, zero, suc, length, set, sym, ap, refl, arith, ◌⊎◌, inl, inr, ⊎_elim, ◌∙◌}
use mathlib.Core.Option.{some, some-injective, some-ne-none}
use lib.ListN.{get_elem?}
use Rattle.std.specs.List.{sum_by}
use Rattle.std.proofs.lemmas.List.Sums.{sum_by-cons}

module _ {A : Type 0} where
  pub at_length : (l : List A) (i : ℕ) (a : A) → get_elem? l i ≡ some a → i < length l
  at_length [] i a e = absurd (some-ne-none a (sym e))
  at_length (x ∷ xs) zero a e = omega arith
  at_length (x ∷ xs) (suc i) a e = let h = at_length xs i a e in omega arith

  -- what stands at one place is one value
  pub at_same : (l : List A) (i j : ℕ) (a b : A) → i ≡ j → get_elem? l i ≡ some a → get_elem? l j ≡ some b → a ≡ b
  at_same l i j a b e p q = some-injective a b (sym p ∙ (ap (get_elem? l) e ∙ q))

  pub at_push : (l : List A) (a b : A) (j : ℕ) → get_elem? (l ++ a ∷ []) j ≡ some b
      → (get_elem? l j ≡ some b) ⊎ ((j ≡ length l) × (a ≡ b))
  at_push [] a b zero e = inr (refl, some-injective a b e)
  at_push [] a b (suc j) e = absurd (some-ne-none b (sym e))
  at_push (x ∷ xs) a b zero e = inl e
  at_push (x ∷ xs) a b (suc j) e =
      ⊎_elim (λ h. inl h) (λ (t : (j ≡ length xs) × (a ≡ b)). let n = t.0 in inr (omega arith, t.1)) (at_push xs a b j e)

  module _ (f : A → ℕ) where
    pub total_set : (l : List A) (i : ℕ) (a b : A) → get_elem? l i ≡ some a
        → sum_by f (set l i b) + f a ≡ sum_by f l + f b
    total_set [] i a b e = absurd (some-ne-none a (sym e))
    total_set (x ∷ xs) zero a b e =
        let p = sum_by-cons f b xs in
        let q = sum_by-cons f x xs in
        let r = ap f (some-injective x a e) in omega arith
    total_set (x ∷ xs) (suc i) a b e =
        let p = sum_by-cons f x (set xs i b) in
        let q = sum_by-cons f x xs in
        let r = total_set xs i a b e in omega arith

    pub total_at : (l : List A) (i : ℕ) (a : A) → get_elem? l i ≡ some a → f a ≤ sum_by f l
    total_at [] i a e = absurd (some-ne-none a (sym e))
    total_at (x ∷ xs) zero a e = let q = sum_by-cons f x xs in let r = ap f (some-injective x a e) in omega arith
    total_at (x ∷ xs) (suc i) a e = let q = sum_by-cons f x xs in let r = total_at xs i a e in omega arith

    pub total_two : (l : List A) (i j : ℕ) (a b : A) → i ≢ j → get_elem? l i ≡ some a → get_elem? l j ≡ some b
        → f a + f b ≤ sum_by f l
    total_two [] i j a b ne p q = absurd (some-ne-none a (sym p))
    total_two (x ∷ xs) zero zero a b ne p q = absurd (ne refl)
    total_two (x ∷ xs) zero (suc j) a b ne p q =
        let h = sum_by-cons f x xs in let r = ap f (some-injective x a p) in let t = total_at xs j b q in omega arith
    total_two (x ∷ xs) (suc i) zero a b ne p q =
        let h = sum_by-cons f x xs in let r = ap f (some-injective x b q) in let t = total_at xs i a p in omega arith
    total_two (x ∷ xs) (suc i) (suc j) a b ne p q =
        let h = sum_by-cons f x xs in let t = total_two xs i j a b (λ e. ne (ap suc e)) p q in omega arith

  pub total_le : (f g : A → ℕ) (l : List A) → ((i : ℕ) (a : A) → get_elem? l i ≡ some a → f a ≤ g a)
      → sum_by f l ≤ sum_by g l
  total_le f g [] h = omega arith
  total_le f g (x ∷ xs) h =
      let p = sum_by-cons f x xs in
      let q = sum_by-cons g x xs in
      let r = h 0 x refl in
      let t = total_le f g xs (λ i a e. h (suc i) a e) in omega arith
