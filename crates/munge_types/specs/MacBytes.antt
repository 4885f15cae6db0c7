-- How a MAC lies in its buffer of 64 bytes.
use Rattle.std.specs.Prelude.{◌≡◌, ℕ, ◌-◌, ◌≤◌, List, ◌++◌, length, take, replicate}

-- the bytes, and zeros up to 64
abbrev pub padded : List ℕ → List ℕ
padded bytes = bytes ++ replicate (64 - length bytes) 0

-- the buffer has the bytes in front, and zeros behind them
pub record IsFilled (buffer : List ℕ) (filled : ℕ) : Type 0 where
  pub size : length buffer ≡ 64
  pub within : filled ≤ 64
  pub zeros : buffer ≡ padded (take filled buffer)
