-- Arithmetic in GF(2^8), the field of bytes (FIPS 197, section 4): the byte b7 .. b0 stands for the
-- polynomial b7 x^7 + .. + b0, modulo x^8 + x^4 + x^3 + x + 1.
use Rattle.std.specs.Prelude.{ℕ, List, zero, suc, ◌*◌, ◌/◌, ◌%◌, ◌^◌, ◌==◌, if◌then◌else◌, bit_xor, unwrap_or}
use Rattle.std.specs.List.{find, range_with_len}

infixl 65 ◌⊕◌
infixl 70 ◌•◌
-- every byte, from 0 to 255
unfoldable pub every_byte : List ℕ
every_byte = range_with_len 0 256

-- bit i of a number
unfoldable pub bit : ℕ → ℕ → ℕ
bit b i = b / 2 ^ i % 2

-- the sum of two bytes (4.1)
abbrev pub ◌⊕◌ : ℕ → ℕ → ℕ
a ⊕ b = bit_xor a b

-- the product of x and a byte (4.2)
unfoldable pub xtimes : ℕ → ℕ
xtimes b = (2 * b % 256) ⊕ (if bit b 7 == 1 then 0x1b else 0)

-- the sum of b x^i over the bits i of c that are 1, the n lowest
unfoldable pub sum_of_powers : ℕ → ℕ → ℕ → ℕ
sum_of_powers zero c b = 0
sum_of_powers (suc n) c b = (if c % 2 == 1 then b else 0) ⊕ sum_of_powers n (c / 2) (xtimes b)

-- the product of two bytes (4.2)
unfoldable pub ◌•◌ : ℕ → ℕ → ℕ
c • b = sum_of_powers 8 c b

-- the byte whose product with b is 1, and 0 for 0 (4.4)
unfoldable pub inverse : ℕ → ℕ
inverse b = unwrap_or (find (λ c. c • b == 1) every_byte) 0
