-- The encryption of a message that comes in parts, by cipher block chaining.
use Rattle.std.specs.Prelude.{◌≡◌, ℕ, List, ◌++◌, length, drop}
use Rattle.cbc_mode.specs.Cbc.{cbc}
use Rattle.cbc_mode.specs.WholeBlocks.{whole_size, whole_blocks}

-- what is kept between two parts
pub record Chaining : Type 0 where
  -- the bytes of the key
  pub key : List ℕ
  -- the last cipher block, and the vector before the first
  pub before : List ℕ
  -- the bytes that are no whole block yet
  pub waiting : List ℕ

-- It has come to the end of this message, under this key and vector: what is behind the whole blocks
-- of the message waits, and whatever comes behind these blocks is chained to the last cipher block.
pub record Chains (state : Chaining) (key iv plain : List ℕ) : Type 0 where
  pub same_key : state.key ≡ key
  pub waits : state.waiting ≡ drop (whole_size (length plain)) plain
  pub goes_on : (rest : List ℕ) → cbc key iv (whole_blocks plain ++ rest)
      ≡ cbc key iv (whole_blocks plain) ++ cbc key state.before rest
