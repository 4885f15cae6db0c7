-- Padding to whole blocks of 16 bytes (RFC 5652, section 6.3).
use Rattle.std.specs.Prelude.{◌≡◌, ℕ, ◌-◌, ◌%◌, ◌≤◌, List, ◌++◌, length, take, replicate}

-- how many bytes are added to n bytes, from 1 to 16
abbrev pub pad_size : ℕ → ℕ
pad_size n = 16 - n % 16

-- the bytes, and behind them the padding: each byte of it is their number
unfoldable pub padded : List ℕ → List ℕ
padded bytes = bytes ++ replicate (pad_size (length bytes)) (pad_size (length bytes))

-- the first n bytes, padded, are these bytes
pub record IsPaddedFront (bytes : List ℕ) (n : ℕ) : Type 0 where
  pub within : n ≤ length bytes
  pub padded_front : padded (take n bytes) ≡ bytes
