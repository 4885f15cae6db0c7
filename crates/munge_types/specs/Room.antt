-- What contracts see of a buffer whose room was reserved.
use Rattle.std.specs.Prelude.{ℕ, List}

-- the bytes in the buffer, and how many more fit without taking memory
pub record Reserved : Type 0 where
  pub bytes : List ℕ
  pub spare : ℕ
