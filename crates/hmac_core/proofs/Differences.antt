-- Two lists compared byte by byte, with what differs gathered in one number.
use Rattle.std.proofs.Common.{◌≡◌, ℕ, ◌+◌, ◌<◌, List, ◌++◌, ◌∷◌, [], length, take, get_or, bit_or, bit_xor, refl, sym, ap, ◌∙◌, arith}
use Rattle.std.proofs.lemmas.List.{take_more, same_from_push}
use Rattle.std.proofs.lemmas.Nat.{le_or_l, le_or_r}
use lib.Bits.{xor_self, xor_assoc, xor_zero_l, xor_zero_r}

-- what was gathered is 0 exactly where the fronts are the same
pub record Gathers (difference i : ℕ) (a b : List ℕ) : Type 0 where
  pub none : difference ≡ 0 → take i a ≡ take i b
  pub same : take i a ≡ take i b → difference ≡ 0

xor_none : (a b : ℕ) → bit_xor a b ≡ 0 → a ≡ b
xor_none a b none =
    sym (xor_zero_r a) ∙ (ap (bit_xor a) (sym (xor_self b)) ∙ (sym (xor_assoc a b b) ∙ (ap (λ n. bit_xor n b) none ∙ xor_zero_l b)))

or_left : (a b : ℕ) → bit_or a b ≡ 0 → a ≡ 0
or_left a b none = let within = le_or_l a b in omega arith

or_right : (a b : ℕ) → bit_or a b ≡ 0 → b ≡ 0
or_right a b none = let within = le_or_r a b in omega arith

-- one byte more
pub gathers_more : (difference i : ℕ) (a b : List ℕ) → i < length a → i < length b → Gathers difference i a b
    → Gathers (bit_or difference (bit_xor (get_or a i 0) (get_or b i 0))) (i + 1) a b
gathers_more difference i a b in_a in_b so_far =
    let more_a = take_more a i 0 in_a in
    let more_b = take_more b i 0 in_b in
    record {
      none = λ none.
          let fronts : take i a ≡ take i b =
          so_far.none (or_left difference (bit_xor (get_or a i 0) (get_or b i 0)) none) in
          let byte : get_or a i 0 ≡ get_or b i 0 =
          xor_none (get_or a i 0) (get_or b i 0) (or_right difference (bit_xor (get_or a i 0) (get_or b i 0)) none) in
          cc;
      same = λ same.
          let pushed : take i a ++ get_or a i 0 ∷ [] ≡ take i b ++ get_or b i 0 ∷ [] = sym more_a ∙ (same ∙ more_b) in
          let both = same_from_push (take i a) (take i b) (get_or a i 0) (get_or b i 0) pushed in
          let zero : difference ≡ 0 = so_far.same both.0 in
          let byte : get_or a i 0 ≡ get_or b i 0 = both.1 in
          rw (zero, byte, xor_self) refl;
    }
