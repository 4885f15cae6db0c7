-- Four bytes in one number: the bytes of a sum are the sums of the bytes.
use Rattle.std.proofs.Common.{◌≡◌, ℕ, ◌/◌, ◌%◌, ◌^◌, bit_xor, ap, ◌∙◌}
use Rattle.std.proofs.lemmas.Nat.{xor_shr, xor_mod}
use Rattle.aes_block.specs.State.{add_columns}
use Rattle.aes_block.specs.Packed.{column_of}

-- the byte of a sum, k bits up
byte_of-xor : (a b k : ℕ) → bit_xor a b / 2 ^ k % 2 ^ 8 ≡ bit_xor (a / 2 ^ k % 2 ^ 8) (b / 2 ^ k % 2 ^ 8)
byte_of-xor a b k = ap (λ (x : ℕ). x % 2 ^ 8) (xor_shr a b k) ∙ xor_mod (a / 2 ^ k) (b / 2 ^ k) 8

pub column_of-xor : (a b : ℕ) → column_of (bit_xor a b) ≡ add_columns (column_of a) (column_of b)
column_of-xor a b i = record {
  row0 = xor_shr a b 24 i;
  row1 = byte_of-xor a b 16 i;
  row2 = byte_of-xor a b 8 i;
  row3 = xor_mod a b 8 i;
}
