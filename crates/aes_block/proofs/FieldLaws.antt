-- The sum and the product of GF(2^8).
use Rattle.std.proofs.Common.{◌≡◌, ℕ, zero, suc, ◌+◌, ◌*◌, ◌/◌, ◌%◌, ◌^◌, ◌<◌, Bool, true, false, ◌==◌, cond, refl, sym, ap, ap₂, ◌∙◌, ◌⊎◌, inl, inr, arith}
use Rattle.std.specs.Int.Bits.{xor_assoc, xor_self}
use Rattle.std.proofs.lemmas.Nat.{xor_comm, xor_shr, xor_mod, xor_block, xor_of_8}
use Rattle.std.proofs.lemmas.Bool.{cases_lt}
use Rattle.aes_block.specs.Field.{◌⊕◌, ◌•◌, bit, xtimes, sum_of_powers}

-- four terms, the second and the third exchanged
pub xor_swap : (a b c d : ℕ) → (a ⊕ b) ⊕ (c ⊕ d) ≡ (a ⊕ c) ⊕ (b ⊕ d)
xor_swap a b c d =
    xor_assoc a b (c ⊕ d)
    ∙ ap (λ (x : ℕ). a ⊕ x) (sym (xor_assoc b c d) ∙ ap (λ (x : ℕ). x ⊕ d) (xor_comm b c) ∙ xor_assoc c b d)
    ∙ sym (xor_assoc a c (b ⊕ d))

-- what is added twice is gone
pub xor_cancel : (a b : ℕ) → (a ⊕ b) ⊕ b ≡ a
xor_cancel a b = xor_assoc a b b ∙ ap (λ (x : ℕ). a ⊕ x) (xor_self b) ∙ xor_comm a 0

abbrev carried : ℕ → ℕ
carried p = cond (p == 1) 0x1b 0

bit_cases : (p : ℕ) → p < 2 → (p ≡ 0) ⊎ (p ≡ 1)
bit_cases p h = elim (cases_lt p 1) [ inl lt ↦ inl (omega arith) | inr ge ↦ inr (omega arith) ]

carried-xor : (p q : ℕ) → p < 2 → q < 2 → carried (p ⊕ q) ≡ carried p ⊕ carried q
carried-xor p q hp hq = elim (bit_cases p hp) [
  | inl p0 ↦ rw p0 refl
  | inr p1 ↦ elim (bit_cases q hq) [ inl q0 ↦ rw (p1, q0) refl | inr q1 ↦ rw (p1, q1) refl ]
]

bit-xor : (a b : ℕ) → bit (a ⊕ b) 7 ≡ bit a 7 ⊕ bit b 7
unfolding bit
bit-xor a b = ap (λ (x : ℕ). x % 2) (xor_shr a b 7) ∙ xor_mod (a / 2 ^ 7) (b / 2 ^ 7) 1

bit_below : (b i : ℕ) → bit b i < 2
unfolding bit
bit_below b i = omega arith

twice : (b : ℕ) → 2 * b ≡ b * 2 ^ 1 + 0
twice b = omega arith

doubled-xor : (a b : ℕ) → 2 * (a ⊕ b) % 256 ≡ (2 * a % 256) ⊕ (2 * b % 256)
doubled-xor a b =
    let twice_sum : 2 * (a ⊕ b) ≡ (2 * a) ⊕ (2 * b) =
    twice (a ⊕ b) ∙ sym (xor_block 1 a b 0 0 (omega arith) (omega arith)) ∙ ap₂ (λ (x y : ℕ). x ⊕ y) (sym (twice a)) (sym (twice b)) in
    ap (λ (x : ℕ). x % 256) twice_sum ∙ xor_mod (2 * a) (2 * b) 8

pub xtimes-xor : (a b : ℕ) → xtimes (a ⊕ b) ≡ xtimes a ⊕ xtimes b
unfolding xtimes
xtimes-xor a b =
    ap₂ (λ (x y : ℕ). x ⊕ y) (doubled-xor a b)
    (ap carried (bit-xor a b) ∙ carried-xor (bit a 7) (bit b 7) (bit_below a 7) (bit_below b 7))
    ∙ xor_swap (2 * a % 256) (2 * b % 256) (carried (bit a 7)) (carried (bit b 7))

kept-xor : (t : Bool) (a b : ℕ) → cond t (a ⊕ b) 0 ≡ cond t a 0 ⊕ cond t b 0
kept-xor true a b = refl
kept-xor false a b = refl

sum_of_powers-xor : (n c a b : ℕ) → sum_of_powers n c (a ⊕ b) ≡ sum_of_powers n c a ⊕ sum_of_powers n c b
unfolding sum_of_powers
sum_of_powers-xor zero c a b = refl
sum_of_powers-xor (suc n) c a b =
    ap₂ (λ (x y : ℕ). x ⊕ y) (kept-xor (c % 2 == 1) a b)
    (ap (sum_of_powers n (c / 2)) (xtimes-xor a b) ∙ sum_of_powers-xor n (c / 2) (xtimes a) (xtimes b))
    ∙ xor_swap (cond (c % 2 == 1) a 0) (cond (c % 2 == 1) b 0) (sum_of_powers n (c / 2) (xtimes a)) (sum_of_powers n (c / 2) (xtimes b))

-- a product of a sum is the sum of the products
pub product-xor : (c a b : ℕ) → c • (a ⊕ b) ≡ c • a ⊕ c • b
unfolding ◌•◌
product-xor c a b = sum_of_powers-xor 8 c a b

carried_below : (t : Bool) → cond t 0x1b 0 < 256
carried_below true = omega arith
carried_below false = omega arith

pub xtimes_below : (b : ℕ) → xtimes b < 256
unfolding xtimes
xtimes_below b = xor_of_8 (2 * b % 256) (carried (bit b 7)) (omega arith) (carried_below (bit b 7 == 1))

kept_below : (t : Bool) (b : ℕ) → b < 256 → cond t b 0 < 256
kept_below true b h = h
kept_below false b h = omega arith

sum_of_powers_below : (n c b : ℕ) → b < 256 → sum_of_powers n c b < 256
unfolding sum_of_powers
sum_of_powers_below zero c b h = omega arith
sum_of_powers_below (suc n) c b h =
    xor_of_8 _ _ (kept_below (c % 2 == 1) b h) (sum_of_powers_below n (c / 2) (xtimes b) (xtimes_below b))

-- a product of a byte is a byte
pub product_below : (c b : ℕ) → b < 256 → c • b < 256
unfolding ◌•◌
product_below c b h = sum_of_powers_below 8 c b h
