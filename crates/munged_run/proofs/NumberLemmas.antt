-- Numbers as words, and as std reads them.
use Rattle.std.proofs.Common.{◌≡◌, ℕ, ◌<◌, ◌^◌, ◌≤◌, Bool, true, false, ◌&&◌, List, length, Err, Some, None, if◌then◌else◌, refl, arith, rules, nat_lt, nat_le}
use Rattle.std.proofs.lemmas.Bool.Decides.{nat_tests}
use Rattle.std.proofs.lemmas.Str.Parse.{IsDigitsTest, IsNumeralModel, numerals_by_value, parse_digits}
use Rattle.std.specs.List.{list_all}
use Rattle.std.specs.Str.Parse.{ParsesUnsigned, digits_value}
use Rattle.munged_run.specs.CommandLine.{is_digit, is_numeral, id_of, largest_id}
use Rattle.munged_run.specs.ExerciseWords.{number_within}

is_digits_test : IsDigitsTest (λ word. list_all is_digit word ≡ true)
is_digits_test = search rules

numerals : IsNumeralModel (λ word. list_all is_digit word ≡ true) (digits_value 10)
numerals = numerals_by_value _ is_digits_test

second_of_both : (p q : Bool) → (p && q) ≡ true → q ≡ true
second_of_both true q both = both
second_of_both false q both = grind arith

first_of_both : (p q : Bool) → (p && q) ≡ true → p ≡ true
first_of_both true q both = refl
first_of_both false q both = both

less-true : (m n : ℕ) → nat_lt m n ≡ true → m < n
less-true m n is = grind (arith, nat_tests)

at_most-false : (m n : ℕ) → (m ≤ n → ⊥) → nat_le m n ≡ false
at_most-false m n above = grind (arith, nat_tests)

-- a numeral that std reads as no number of 32 bits is no UID
pub id_of-unread : (word : List ℕ) → ParsesUnsigned {E = ℕ} 32 10 word (Err 0) → is_numeral word ≡ true → id_of word ≡ None
id_of-unread word parses numeral =
    let refuted : ¬ ((0 < length word) × (digits_value 10 word < 2 ^ 32)) = parse_digits numerals {E = ℕ} 32 word (Err 0) parses (second_of_both (nat_lt 0 (length word) && nat_le (length word) 20) (list_all is_digit word) numeral) in
    let some : 0 < length word = less-true _ _ (first_of_both (nat_lt 0 (length word)) _ (first_of_both (nat_lt 0 (length word) && nat_le (length word) 20) (list_all is_digit word) numeral)) in
    let large : digits_value 10 word ≤ largest_id → ⊥ = λ small. refuted (some, omega arith) in
    rw (numeral, at_most-false _ _ large) refl

below_both : (a b c : ℕ) → a ≤ b → b < c → a < c
below_both a b c le lt = omega arith

none_within : (p q : Bool) (value : ℕ) → q ≡ false → (if p && q then Some value else None) ≡ None
none_within true q value above = rw above refl
none_within false q value above = refl

-- a numeral that std reads as no number of so many bits is no number that fits them
pub number_within-unread : (bits least most : ℕ) (word : List ℕ) → ParsesUnsigned {E = ℕ} bits 10 word (Err 0)
    → most < 2 ^ bits → is_numeral word ≡ true → number_within least most word ≡ None
number_within-unread bits least most word parses fits numeral =
    let refuted : ¬ ((0 < length word) × (digits_value 10 word < 2 ^ bits)) = parse_digits numerals {E = ℕ} bits word (Err 0) parses (second_of_both (nat_lt 0 (length word) && nat_le (length word) 20) (list_all is_digit word) numeral) in
    let some : 0 < length word = less-true _ _ (first_of_both (nat_lt 0 (length word)) _ (first_of_both (nat_lt 0 (length word) && nat_le (length word) 20) (list_all is_digit word) numeral)) in
    let value : ℕ = digits_value 10 word in
    let large : digits_value 10 word ≤ most → ⊥ = λ small. refuted (some, below_both _ _ _ small fits) in
    rw numeral (none_within (nat_le least value) (nat_le value most) value (at_most-false _ _ large))
