-- What a tool reads of its input.
use Rattle.std.specs.Prelude.{◌≡◌, ℕ, ◌+◌, ◌≤◌, List, length}
use Rattle.std.specs.Io.KnownBytes.{Consumes}
use Rattle.munge_tools.specs.ReplyRead.{AtEnd, Input}
use Rattle.munge_tools.specs.declared.ending.Ending.{Ending}
use Rattle.munge_tools.specs.declared.ending.Ending.TheVariants.{TooLong, InputFailed, NoMemory}

-- these bytes were read, and the input ended behind them
pub record IsWholeInput (before after : Input) (bytes : List ℕ) : Type 0 where
  pub consumed : Consumes before.left after.left bytes
  pub at_end : AtEnd before after

-- The input was not taken, of which no more bytes than the limit may be, and the tool ends so;
-- `same` says that the input is as before.
pub data NoInput (limit : ℕ) (same : Type 0) (before after : Input) (how : Ending) : Type 0 where
  -- it has one byte more
  too_long : (bytes : List ℕ) → length bytes ≡ limit + 1 → Consumes before.left after.left bytes
      → how ≡ TooLong → NoInput limit same before after how
  -- a read failed behind some bytes
  unread : (bytes : List ℕ) → length bytes ≤ limit → Consumes before.left after.left bytes
      → how ≡ InputFailed → NoInput limit same before after how
  -- no memory was left to read it
  no_memory : same → how ≡ NoMemory → NoInput limit same before after how
