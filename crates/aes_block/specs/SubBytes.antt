-- SUBBYTES, the substitution of each byte by the S-box (FIPS 197, 5.1.1).
use Rattle.std.specs.Prelude.{ℕ, ◌+◌, ◌*◌, ◌%◌, ◌^◌, sum_by}
use Rattle.std.specs.List.{range_with_len}
use Rattle.aes_block.specs.Field.{bit, inverse}
use Rattle.aes_block.specs.State.{Column, StateArray}

-- bit i of the affine transformation of b
unfoldable pub affine_bit : ℕ → ℕ → ℕ
affine_bit b i =
    (bit b i + bit b ((i + 4) % 8) + bit b ((i + 5) % 8) + bit b ((i + 6) % 8)
    + bit b ((i + 7) % 8) + bit 0x63 i) % 2

-- the affine transformation of a byte (5.1.1)
unfoldable pub affine : ℕ → ℕ
affine b = sum_by (λ i. affine_bit b i * 2 ^ i) (range_with_len 0 8)

-- the S-box: the inverse in the field, and then the affine transformation
unfoldable pub sub_byte : ℕ → ℕ
sub_byte b = affine (inverse b)

-- SUBWORD (5.2): the S-box at each byte of a column
abbrev pub sub_word : Column → Column
sub_word c = record {
  row0 = sub_byte c.row0;
  row1 = sub_byte c.row1;
  row2 = sub_byte c.row2;
  row3 = sub_byte c.row3;
}

-- SUBBYTES
abbrev pub sub_bytes : StateArray → StateArray
sub_bytes s = record {
  column0 = sub_word s.column0;
  column1 = sub_word s.column1;
  column2 = sub_word s.column2;
  column3 = sub_word s.column3;
}
