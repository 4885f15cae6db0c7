-- The state of the cipher, an array of bytes with four rows and four columns (FIPS 197, 3.4).
use Rattle.std.specs.Prelude.{◌≡◌, ℕ, ◌+◌, ◌<◌, List, [], ◌∷◌, length, All, slice_index}
use Rattle.aes_block.specs.Field.{◌⊕◌}

-- four bytes: a column of the state, or a word of the key schedule (3.5)
pub record Column : Type 0 where
  pub row0 : ℕ
  pub row1 : ℕ
  pub row2 : ℕ
  pub row3 : ℕ

-- the state by its columns (3.5)
pub record StateArray : Type 0 where
  pub column0 : Column
  pub column1 : Column
  pub column2 : Column
  pub column3 : Column

-- the four bytes from an index on
abbrev pub column_at : List ℕ → ℕ → Column
column_at bytes i = record {
  row0 = slice_index bytes i;
  row1 = slice_index bytes (i + 1);
  row2 = slice_index bytes (i + 2);
  row3 = slice_index bytes (i + 3);
}

-- the state that a block fills, column by column (3.4)
abbrev pub state_of : List ℕ → StateArray
state_of block = record {
  column0 = column_at block 0;
  column1 = column_at block 4;
  column2 = column_at block 8;
  column3 = column_at block 12;
}

-- the bytes of a column, from the first row on
abbrev pub column_bytes : Column → List ℕ
column_bytes c = c.row0 ∷ c.row1 ∷ c.row2 ∷ c.row3 ∷ []

-- the block that a state leaves, column by column (3.4)
abbrev pub block_of : StateArray → List ℕ
block_of s =
    s.column0.row0 ∷ s.column0.row1 ∷ s.column0.row2 ∷ s.column0.row3 ∷
    s.column1.row0 ∷ s.column1.row1 ∷ s.column1.row2 ∷ s.column1.row3 ∷
    s.column2.row0 ∷ s.column2.row1 ∷ s.column2.row2 ∷ s.column2.row3 ∷
    s.column3.row0 ∷ s.column3.row1 ∷ s.column3.row2 ∷ s.column3.row3 ∷ []

-- sixteen bytes
pub record IsBlock (block : List ℕ) : Type 0 where
  pub sixteen : length block ≡ 16
  pub bytes : All (λ b. b < 256) block

-- the sum of two columns, byte by byte (4.1)
abbrev pub add_columns : Column → Column → Column
add_columns a b = record {
  row0 = a.row0 ⊕ b.row0;
  row1 = a.row1 ⊕ b.row1;
  row2 = a.row2 ⊕ b.row2;
  row3 = a.row3 ⊕ b.row3;
}
