-- The whole blocks of 16 bytes at the front of a message.
use Rattle.std.specs.Prelude.{ℕ, ◌+◌, ◌-◌, ◌*◌, ◌/◌, List, length, take, drop}

-- how many of n bytes are in whole blocks
abbrev pub whole_size : ℕ → ℕ
whole_size n = 16 * (n / 16)

-- how many bytes the blocks have that n more bytes complete, behind p bytes
abbrev pub completed : ℕ → ℕ → ℕ
completed p n = whole_size (p + n) - whole_size p

-- the whole blocks at the front
unfoldable pub whole_blocks : List ℕ → List ℕ
whole_blocks bytes = take (whole_size (length bytes)) bytes

-- what the second list has beyond the first, with which it begins
abbrev pub beyond : List ℕ → List ℕ → List ℕ
beyond first second = drop (length first) second
