-- Numbers as words, and as std reads them.
use Rattle.std.proofs.Common.{◌≡◌, ℕ, ◌<◌, ◌^◌, ◌≤◌, true, false, List, [], ◌∷◌, length, Err, None, refl, arith, rules, nat_lt, nat_le, Bool, ◌&&◌}
use Rattle.std.proofs.lemmas.Bool.Decides.{nat_tests}
use Rattle.std.proofs.lemmas.Str.Parse.{IsDigitsTest, IsNumeralModel, numerals_by_value, parse_digits}
use Rattle.std.specs.List.{list_all}
use Rattle.std.specs.Str.Parse.{ParsesUnsigned, digits_value}
use Rattle.munge_tools.specs.Words.{is_digit, number_of}

is_digits_test : IsDigitsTest (λ word. list_all is_digit word ≡ true)
is_digits_test = search rules

numerals : IsNumeralModel (λ word. list_all is_digit word ≡ true) (digits_value 10)
numerals = numerals_by_value _ is_digits_test

at_most-false : (m n : ℕ) → (m ≤ n → ⊥) → nat_le m n ≡ false
at_most-false m n above = grind (arith, nat_tests)

and-false : (a b : Bool) → b ≡ false → (a && b) ≡ false
and-false true b same = same
and-false false b same = refl

-- digits that std reads as no number of 32 bits spell none
pub number_of-unread : (least most : ℕ) (word : List ℕ) → most < 2 ^ 32 → ParsesUnsigned {E = ℕ} 32 10 word (Err 0)
    → list_all is_digit word ≡ true → number_of least most word ≡ None
number_of-unread least most [] small parses digits = refl
number_of-unread least most (d ∷ rest) small parses digits =
    let refuted : ¬ ((0 < length (d ∷ rest)) × (digits_value 10 (d ∷ rest) < 2 ^ 32)) = parse_digits numerals {E = ℕ} 32 (d ∷ rest) (Err 0) parses digits in
    let large : digits_value 10 (d ∷ rest) ≤ most → ⊥ = λ within. refuted (omega arith, omega arith) in
    let some : nat_lt 0 (length (d ∷ rest)) ≡ true = grind (arith, nat_tests) in
    rw (some, digits, and-false _ _ (at_most-false _ _ large)) refl
