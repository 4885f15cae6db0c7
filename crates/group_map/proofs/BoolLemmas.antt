-- Tests of lists, and what passes them.
use Rattle.std.proofs.Common.{◌≡◌, Bool, true, false, ◌&&◌, ◌||◌, List, [], ◌∷◌, refl, sym, ◌∙◌, ap, inl, inr}
use Rattle.std.proofs.lemmas.Bool.{cases_Bool}
use Rattle.std.specs.List.{list_any}

-- what passes one test exactly where another passes
pub both_ways : (a b : Bool) → (a ≡ true → b ≡ true) → (b ≡ true → a ≡ true) → a ≡ b
both_ways true b forth back = sym (forth refl)
both_ways false true forth back = back refl
both_ways false false forth back = refl

-- each half of what is true together
pub halves : (a b : Bool) → a && b ≡ true → (a ≡ true) × (b ≡ true)
halves true b is = (refl, is)
halves false b is = absurd (cc is)

pub together : (a b : Bool) → a ≡ true → b ≡ true → a && b ≡ true
together a b first second = ap (λ t. t && b) first ∙ second

-- an element that passes a test; whatever test it passes, some element passes
pub found : {X : Type 0} (test : X → Bool) (xs : List X) → list_any test xs ≡ true
    → (x : X) × (test x ≡ true) × ((other : X → Bool) → other x ≡ true → list_any other xs ≡ true)
found test [] is = absurd (cc is)
found test (x ∷ xs) is =
    elim (cases_Bool (test x)) [
      | inl here ↦ (x, here, λ other passes. ap (λ t. t || list_any other xs) passes)
      | inr not_here ↦
          let later = found test xs (sym (ap (λ t. t || list_any test xs) not_here) ∙ is) in
          (later.0, later.1, λ other passes. after (other x) (list_any other xs) (later.2 other passes))
    ]
  where
    after : (a b : Bool) → b ≡ true → a || b ≡ true
    after true b is = refl
    after false b is = is

-- tests that are the same at each element
pub list_any-same : {X : Type 0} (test other : X → Bool) → ((x : X) → test x ≡ other x) → (xs : List X) → list_any test xs ≡ list_any other xs
list_any-same test other same [] = refl
list_any-same test other same (x ∷ xs) = λ i. same x i || list_any-same test other same xs i

-- a condition that does not depend on the element
pub list_any-and : {X : Type 0} (condition : Bool) (test : X → Bool) (xs : List X) → list_any (λ x. condition && test x) xs ≡ condition && list_any test xs
list_any-and true test xs = refl
list_any-and false test [] = refl
list_any-and false test (x ∷ xs) = list_any-and false test xs
