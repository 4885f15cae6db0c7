-- Numbers as bytes, the highest byte first.
use Rattle.std.specs.Prelude.{ℕ, List}
use Rattle.std.specs.Int.{w32, w64, to_be_bytes}

-- the four bytes whose big-endian value is n, for n below 2 ^ 32
abbrev pub be32 : ℕ → List ℕ
be32 n = to_be_bytes w32 n

-- the eight bytes whose big-endian value is n, for n below 2 ^ 64
abbrev pub be64 : ℕ → List ℕ
be64 n = to_be_bytes w64 n
