-- The value of decimal digits.
use Rattle.std.proofs.Common.{◌≡◌, ℕ, ◌+◌, ◌-◌, ◌*◌, ◌^◌, ◌<◌, ◌≤◌, nat_le, Bool, true, false, ◌&&◌, if◌then◌else◌, List, [], ◌∷◌, ◌++◌, length, Option, Some, None, Result, Ok, Err, ap, refl, sym, ◌∙◌, arith, length-append, add-one, lit<}
use Rattle.std.proofs.lemmas.Bool.{le-leb, lt-leb}
use Rattle.std.specs.Char.{is_ascii_digit}
use Rattle.std.specs.List.{list_all}
use Rattle.std.specs.Result.{OkIff, result_ok}
use Rattle.std.proofs.Math.Nat.{pow-le-pow_right, pow-suc}
use Rattle.group_map.specs.Numbers.{id_of, value_of}

-- the next power of ten
pub next_power : (n : ℕ) → 10 ^ (n + 1) ≡ 10 ^ n * 10
next_power n = ap (λ m. 10 ^ m) (add-one n) ∙ pow-suc 10 n

-- one more digit behind
pub value_of-more : (digits : List ℕ) (digit : ℕ) → value_of (digits ++ digit ∷ []) ≡ value_of digits * 10 + (digit - 48)
value_of-more [] digit = one (digit - 48)
  where
    one : (d : ℕ) → d * 1 + 0 ≡ 0 * 10 + d
    one d = omega arith
value_of-more (first ∷ digits) digit =
    let longer : length (digits ++ digit ∷ []) ≡ length digits + 1 = omega (arith, length-append digits (digit ∷ [])) in
    rw (longer, value_of-more digits digit, next_power (length digits)) (regroup (first - 48) (10 ^ length digits) (value_of digits) (digit - 48))
  where
    regroup : (a p v d : ℕ) → a * (p * 10) + (v * 10 + d) ≡ (a * p + v) * 10 + d
    regroup a p v d = grind arith

-- up to nine digits have a value below ten to the ninth
pub small_power : (n : ℕ) → n ≤ 9 → 10 ^ n ≤ 1000000000
small_power n few = pow-le-pow_right (lit< tt) few

-- the number, if 32 bits hold it
abbrev pub held : Option ℕ → Option ℕ
held None = None
held (Some value) = if nat_le value 4294967295 then Some value else None

-- no digits, or more than ten
pub id_of-size : (digits : List ℕ) → nat_le 1 (length digits) && nat_le (length digits) 10 ≡ false → None ≡ id_of digits
unfolding id_of
id_of-size digits wrong =
    ap (λ t. if t && (list_all is_ascii_digit digits && nat_le (value_of digits) 4294967295) then Some (value_of digits) else None) (sym wrong)

-- one to ten digits
pub id_of-held : (digits : List ℕ) → 1 ≤ length digits → length digits ≤ 10
    → id_of digits ≡ held (if list_all is_ascii_digit digits then Some (value_of digits) else None)
unfolding id_of
id_of-held digits some few =
    rw (le-leb 1 (length digits) some, le-leb (length digits) 10 few) (either (list_all is_ascii_digit digits) (value_of digits))
  where
    either : (all : Bool) (value : ℕ)
        → (if all && nat_le value 4294967295 then Some value else None) ≡ held (if all then Some value else None)
    either true value = refl
    either false value = refl

-- a number that is turned into one of 32 bits
pub held-from : {E : Type 0} (result : Result ℕ E) (value : ℕ) → OkIff result (value < 4294967296) value → result_ok result ≡ held (Some value)
held-from (Ok number) value is = rw (is.1, le-leb value 4294967295 (omega (arith, is.0))) refl
held-from (Err refused) value not_below = rw (lt-leb value 4294967295 (above value not_below)) refl
  where
    above : (n : ℕ) → ¬ (n < 4294967296) → 4294967295 < n
    above n not_below = omega (arith, not_below)
