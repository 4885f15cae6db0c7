-- The other transformations of a round (FIPS 197, 5.1.2 to 5.1.4), and the round made of them
-- (5.1).
use Rattle.std.specs.Prelude.{ℕ}
use Rattle.aes_block.specs.Field.{◌⊕◌, ◌•◌}
use Rattle.aes_block.specs.State.{Column, StateArray, add_columns}
use Rattle.aes_block.specs.SubBytes.{sub_bytes}

-- a column of bytes on the diagonal that begins in the top row of the first of four columns
abbrev pub diagonal : Column → Column → Column → Column → Column
diagonal a b c d = record { row0 = a.row0; row1 = b.row1; row2 = c.row2; row3 = d.row3 }

-- SHIFTROWS: row r moves r places to the left (5.1.2)
abbrev pub shift_rows : StateArray → StateArray
shift_rows s = record {
  column0 = diagonal s.column0 s.column1 s.column2 s.column3;
  column1 = diagonal s.column1 s.column2 s.column3 s.column0;
  column2 = diagonal s.column2 s.column3 s.column0 s.column1;
  column3 = diagonal s.column3 s.column0 s.column1 s.column2;
}

-- the products of the bytes of a column and one byte (4.2)
abbrev pub products : Column → ℕ → Column
products a b = record { row0 = a.row0 • b; row1 = a.row1 • b; row2 = a.row2 • b; row3 = a.row3 • b }

-- the product of a column and the circulant matrix whose first column is a (4.3)
abbrev pub matrix_product : Column → Column → Column
matrix_product a b = record {
  row0 = a.row0 • b.row0 ⊕ a.row3 • b.row1 ⊕ a.row2 • b.row2 ⊕ a.row1 • b.row3;
  row1 = a.row1 • b.row0 ⊕ a.row0 • b.row1 ⊕ a.row3 • b.row2 ⊕ a.row2 • b.row3;
  row2 = a.row2 • b.row0 ⊕ a.row1 • b.row1 ⊕ a.row0 • b.row2 ⊕ a.row3 • b.row3;
  row3 = a.row3 • b.row0 ⊕ a.row2 • b.row1 ⊕ a.row1 • b.row2 ⊕ a.row0 • b.row3;
}

-- MIXCOLUMNS on one column (5.1.3)
abbrev pub mix_column : Column → Column
mix_column = matrix_product (record { row0 = 0x02; row1 = 0x01; row2 = 0x01; row3 = 0x03 })

-- MIXCOLUMNS
abbrev pub mix_columns : StateArray → StateArray
mix_columns s = record {
  column0 = mix_column s.column0;
  column1 = mix_column s.column1;
  column2 = mix_column s.column2;
  column3 = mix_column s.column3;
}

-- ADDROUNDKEY (5.1.4)
abbrev pub add_round_key : StateArray → StateArray → StateArray
add_round_key s key = record {
  column0 = add_columns s.column0 key.column0;
  column1 = add_columns s.column1 key.column1;
  column2 = add_columns s.column2 key.column2;
  column3 = add_columns s.column3 key.column3;
}

-- a round before the last (5.1)
unfoldable pub round : StateArray → StateArray → StateArray
round s key = add_round_key (mix_columns (shift_rows (sub_bytes s))) key

-- the last round, which mixes no columns (5.1)
unfoldable pub last_round : StateArray → StateArray → StateArray
last_round s key = add_round_key (shift_rows (sub_bytes s)) key
