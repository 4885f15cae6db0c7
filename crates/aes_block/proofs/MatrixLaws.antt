-- Products of a column and a circulant matrix, and the two matrices that undo each other.
use Rattle.std.proofs.Common.{◌≡◌, ℕ, ◌<◌, map, refl, sym, ap, ap₂, ◌∙◌}
use Rattle.std.specs.Int.Bits.{xor_zero_r}
use Rattle.std.proofs.lemmas.Nat.{xor_of_8}
use Rattle.aes_block.specs.Field.{◌⊕◌, ◌•◌, every_byte, bit, xtimes, sum_of_powers}
use Rattle.aes_block.specs.State.{Column, add_columns}
use Rattle.aes_block.specs.Rounds.{matrix_product, mix_column}
use Rattle.aes_block.proofs.FieldLaws.{xor_swap, xor_cancel, product-xor, product_below}
use Rattle.aes_block.proofs.SBoxTables.{at_byte}

-- four bytes
pub record IsBytes (c : Column) : Type 0 where
  pub row0 : c.row0 < 256
  pub row1 : c.row1 < 256
  pub row2 : c.row2 < 256
  pub row3 : c.row3 < 256

pub add_columns-cancel : (a b : Column) → add_columns (add_columns a b) b ≡ a
add_columns-cancel a b i = record {
  row0 = xor_cancel a.row0 b.row0 i;
  row1 = xor_cancel a.row1 b.row1 i;
  row2 = xor_cancel a.row2 b.row2 i;
  row3 = xor_cancel a.row3 b.row3 i;
}

-- a row of the matrix
abbrev row_product : ℕ → ℕ → ℕ → ℕ → Column → ℕ
row_product c0 c1 c2 c3 a = c0 • a.row0 ⊕ c1 • a.row1 ⊕ c2 • a.row2 ⊕ c3 • a.row3

row_product-add : (c0 c1 c2 c3 : ℕ) (a b : Column) → row_product c0 c1 c2 c3 (add_columns a b) ≡ row_product c0 c1 c2 c3 a ⊕ row_product c0 c1 c2 c3 b
row_product-add c0 c1 c2 c3 a b =
    ap₂ (λ (x y : ℕ). x ⊕ y)
    (ap₂ (λ (x y : ℕ). x ⊕ y)
    (ap₂ (λ (x y : ℕ). x ⊕ y) (product-xor c0 a.row0 b.row0) (product-xor c1 a.row1 b.row1)
    ∙ xor_swap (c0 • a.row0) (c0 • b.row0) (c1 • a.row1) (c1 • b.row1))
    (product-xor c2 a.row2 b.row2)
    ∙ xor_swap (c0 • a.row0 ⊕ c1 • a.row1) (c0 • b.row0 ⊕ c1 • b.row1) (c2 • a.row2) (c2 • b.row2))
    (product-xor c3 a.row3 b.row3)
    ∙ xor_swap (c0 • a.row0 ⊕ c1 • a.row1 ⊕ c2 • a.row2) (c0 • b.row0 ⊕ c1 • b.row1 ⊕ c2 • b.row2) (c3 • a.row3) (c3 • b.row3)

-- the product of a sum is the sum of the products
pub matrix_product-add : (m a b : Column) → matrix_product m (add_columns a b) ≡ add_columns (matrix_product m a) (matrix_product m b)
matrix_product-add m a b i = record {
  row0 = row_product-add m.row0 m.row3 m.row2 m.row1 a b i;
  row1 = row_product-add m.row1 m.row0 m.row3 m.row2 a b i;
  row2 = row_product-add m.row2 m.row1 m.row0 m.row3 a b i;
  row3 = row_product-add m.row3 m.row2 m.row1 m.row0 a b i;
}

pub mix_column-add : (a b : Column) → mix_column (add_columns a b) ≡ add_columns (mix_column a) (mix_column b)
mix_column-add = matrix_product-add (record { row0 = 0x02; row1 = 0x01; row2 = 0x01; row3 = 0x03 })

row_product_below : (c0 c1 c2 c3 : ℕ) (a : Column) → IsBytes a → row_product c0 c1 c2 c3 a < 256
row_product_below c0 c1 c2 c3 a h =
    xor_of_8 _ _
    (xor_of_8 _ _ (xor_of_8 _ _ (product_below c0 a.row0 h.row0) (product_below c1 a.row1 h.row1)) (product_below c2 a.row2 h.row2))
    (product_below c3 a.row3 h.row3)

-- a product of bytes is bytes
pub IsBytes-matrix_product : (m a : Column) → IsBytes a → IsBytes (matrix_product m a)
IsBytes-matrix_product m a h = record {
  row0 = row_product_below m.row0 m.row3 m.row2 m.row1 a h;
  row1 = row_product_below m.row1 m.row0 m.row3 m.row2 a h;
  row2 = row_product_below m.row2 m.row1 m.row0 m.row3 a h;
  row3 = row_product_below m.row3 m.row2 m.row1 m.row0 a h;
}

pub IsBytes-add_columns : (a b : Column) → IsBytes a → IsBytes b → IsBytes (add_columns a b)
IsBytes-add_columns a b ha hb = record {
  row0 = xor_of_8 _ _ ha.row0 hb.row0;
  row1 = xor_of_8 _ _ ha.row1 hb.row1;
  row2 = xor_of_8 _ _ ha.row2 hb.row2;
  row3 = xor_of_8 _ _ ha.row3 hb.row3;
}

-- the inverse of MIXCOLUMNS on one column (5.3.3)
abbrev pub unmix_column : Column → Column
unmix_column = matrix_product (record { row0 = 0x0e; row1 = 0x09; row2 = 0x0d; row3 = 0x0b })

unmix_column-add : (a b : Column) → unmix_column (add_columns a b) ≡ add_columns (unmix_column a) (unmix_column b)
unmix_column-add = matrix_product-add (record { row0 = 0x0e; row1 = 0x09; row2 = 0x0d; row3 = 0x0b })

abbrev in_row0 : ℕ → Column
in_row0 b = record { row0 = b; row1 = 0; row2 = 0; row3 = 0 }

abbrev in_row1 : ℕ → Column
in_row1 b = record { row0 = 0; row1 = b; row2 = 0; row3 = 0 }

abbrev in_row2 : ℕ → Column
in_row2 b = record { row0 = 0; row1 = 0; row2 = b; row3 = 0 }

abbrev in_row3 : ℕ → Column
in_row3 b = record { row0 = 0; row1 = 0; row2 = 0; row3 = b }

abbrev sum_of_rows : (ℕ → Column) → (ℕ → Column) → (ℕ → Column) → (ℕ → Column) → Column → Column
sum_of_rows f0 f1 f2 f3 a = add_columns (add_columns (add_columns (f0 a.row0) (f1 a.row1)) (f2 a.row2)) (f3 a.row3)

-- a column is the sum of its rows
rows_of : (a : Column) → sum_of_rows in_row0 in_row1 in_row2 in_row3 a ≡ a
rows_of a i = record {
  row0 = (xor_zero_r (a.row0 ⊕ 0 ⊕ 0) ∙ xor_zero_r (a.row0 ⊕ 0) ∙ xor_zero_r a.row0) i;
  row1 = (xor_zero_r (a.row1 ⊕ 0) ∙ xor_zero_r a.row1) i;
  row2 = xor_zero_r a.row2 i;
  row3 = a.row3;
}

module _ (f : Column → Column) (additive : (a b : Column) → f (add_columns a b) ≡ add_columns (f a) (f b)) where
  rows_apart : (a : Column) → f a ≡ sum_of_rows (λ b. f (in_row0 b)) (λ b. f (in_row1 b)) (λ b. f (in_row2 b)) (λ b. f (in_row3 b)) a
  rows_apart a =
      ap f (sym (rows_of a))
      ∙ additive (add_columns (add_columns (in_row0 a.row0) (in_row1 a.row1)) (in_row2 a.row2)) (in_row3 a.row3)
      ∙ ap (λ (x : Column). add_columns x (f (in_row3 a.row3)))
      (additive (add_columns (in_row0 a.row0) (in_row1 a.row1)) (in_row2 a.row2)
      ∙ ap (λ (x : Column). add_columns x (f (in_row2 a.row2))) (additive (in_row0 a.row0) (in_row1 a.row1)))

  -- what leaves each byte alone in its row leaves each column alone
  leaves_alone : ((b : ℕ) → b < 256 → f (in_row0 b) ≡ in_row0 b) → ((b : ℕ) → b < 256 → f (in_row1 b) ≡ in_row1 b)
      → ((b : ℕ) → b < 256 → f (in_row2 b) ≡ in_row2 b) → ((b : ℕ) → b < 256 → f (in_row3 b) ≡ in_row3 b)
      → (a : Column) → IsBytes a → f a ≡ a
  leaves_alone h0 h1 h2 h3 a h =
      rows_apart a
      ∙ ap₂ add_columns (ap₂ add_columns (ap₂ add_columns (h0 a.row0 h.row0) (h1 a.row1 h.row1)) (h2 a.row2 h.row2)) (h3 a.row3 h.row3)
      ∙ rows_of a

abbrev mixed : Column → Column
mixed a = mix_column (unmix_column a)

abbrev unmixed : Column → Column
unmixed a = unmix_column (mix_column a)

mixed-add : (a b : Column) → mixed (add_columns a b) ≡ add_columns (mixed a) (mixed b)
mixed-add a b = ap mix_column (unmix_column-add a b) ∙ mix_column-add (unmix_column a) (unmix_column b)

mixed_row0 : map (λ b. mixed (in_row0 b)) every_byte ≡ map in_row0 every_byte
unfolding every_byte bit xtimes sum_of_powers ◌•◌
mixed_row0 = refl

mixed_row1 : map (λ b. mixed (in_row1 b)) every_byte ≡ map in_row1 every_byte
unfolding every_byte bit xtimes sum_of_powers ◌•◌
mixed_row1 = refl

mixed_row2 : map (λ b. mixed (in_row2 b)) every_byte ≡ map in_row2 every_byte
unfolding every_byte bit xtimes sum_of_powers ◌•◌
mixed_row2 = refl

mixed_row3 : map (λ b. mixed (in_row3 b)) every_byte ≡ map in_row3 every_byte
unfolding every_byte bit xtimes sum_of_powers ◌•◌
mixed_row3 = refl

unmixed-add : (a b : Column) → unmixed (add_columns a b) ≡ add_columns (unmixed a) (unmixed b)
unmixed-add a b = ap unmix_column (mix_column-add a b) ∙ unmix_column-add (mix_column a) (mix_column b)

unmixed_row0 : map (λ b. unmixed (in_row0 b)) every_byte ≡ map in_row0 every_byte
unfolding every_byte bit xtimes sum_of_powers ◌•◌
unmixed_row0 = refl

unmixed_row1 : map (λ b. unmixed (in_row1 b)) every_byte ≡ map in_row1 every_byte
unfolding every_byte bit xtimes sum_of_powers ◌•◌
unmixed_row1 = refl

unmixed_row2 : map (λ b. unmixed (in_row2 b)) every_byte ≡ map in_row2 every_byte
unfolding every_byte bit xtimes sum_of_powers ◌•◌
unmixed_row2 = refl

unmixed_row3 : map (λ b. unmixed (in_row3 b)) every_byte ≡ map in_row3 every_byte
unfolding every_byte bit xtimes sum_of_powers ◌•◌
unmixed_row3 = refl

-- MIXCOLUMNS undoes its inverse
pub mix_column-unmix_column : (a : Column) → IsBytes a → mix_column (unmix_column a) ≡ a
mix_column-unmix_column =
    leaves_alone mixed mixed-add
    (at_byte (λ b. mixed (in_row0 b)) in_row0 mixed_row0) (at_byte (λ b. mixed (in_row1 b)) in_row1 mixed_row1)
    (at_byte (λ b. mixed (in_row2 b)) in_row2 mixed_row2) (at_byte (λ b. mixed (in_row3 b)) in_row3 mixed_row3)

-- and is undone by it
pub unmix_column-mix_column : (a : Column) → IsBytes a → unmix_column (mix_column a) ≡ a
unmix_column-mix_column =
    leaves_alone unmixed unmixed-add
    (at_byte (λ b. unmixed (in_row0 b)) in_row0 unmixed_row0) (at_byte (λ b. unmixed (in_row1 b)) in_row1 unmixed_row1)
    (at_byte (λ b. unmixed (in_row2 b)) in_row2 unmixed_row2) (at_byte (λ b. unmixed (in_row3 b)) in_row3 unmixed_row3)
