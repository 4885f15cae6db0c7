-- Numbers from 0 on, one more of them.
use Rattle.std.proofs.Common.{◌≡◌, ℕ, ◌+◌, zero, suc, List, [], ◌∷◌, ◌++◌, map, sym, ap, ◌∙◌, arith}
use Rattle.std.proofs.lemmas.List.{map-append}
use Rattle.std.specs.List.{range_with_len}

range_push : (a n : ℕ) → range_with_len a (suc n) ≡ range_with_len a n ++ (a + n) ∷ []
range_push a zero = let same : a ≡ a + 0 = omega arith in ap (λ m. m ∷ []) same
range_push a (suc n) =
    let same : (a + 1) + n ≡ a + suc n = omega arith in
    ap (λ l. a ∷ l) (range_push (a + 1) n ∙ ap (λ m. range_with_len (a + 1) n ++ m ∷ []) same)

-- one more number from 0 on
pub range_more : (n : ℕ) → range_with_len 0 (suc n) ≡ range_with_len 0 n ++ n ∷ []
range_more n = let same : 0 + n ≡ n = omega arith in range_push 0 n ∙ ap (λ m. range_with_len 0 n ++ m ∷ []) same

-- and what stands for each
pub mapped_more : {X : Type 0} (f : ℕ → X) (xs : List X) (n : ℕ) → xs ≡ map f (range_with_len 0 n)
    → xs ++ f n ∷ [] ≡ map f (range_with_len 0 (n + 1))
mapped_more f xs n are =
    let next : suc n ≡ n + 1 = omega arith in
    ap (λ l. l ++ f n ∷ []) are
    ∙ (sym (map-append f (range_with_len 0 n) (n ∷ []))
    ∙ (sym (ap (map f) (range_more n)) ∙ ap (λ m. map f (range_with_len 0 m)) next))
