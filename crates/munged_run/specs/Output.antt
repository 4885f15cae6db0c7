-- What becomes of the output, and what is counted where nothing was served.
use Rattle.std.specs.Prelude.{◌≡◌, ℕ, List}
use Rattle.std.specs.Io.KnownBytes.{Appends}
use Rattle.byte_io.specs.Counts.{Rose}
use Rattle.worker_pool.specs.declared.tally.Tally.{Tally}
use Rattle.munged_files.specs.Ending.{Errors}

-- the totals of the empty history
abbrev pub no_totals : Tally
no_totals = record { presented = 0; accepted = 0; replayed = 0; expired = 0 }

-- nothing was served: the tally is that of the empty history, and no pair is kept
pub record NothingServed (tally : Tally) (kept : ℕ) : Type 0 where
  pub tally_is : tally ≡ no_totals
  pub kept_is : kept ≡ 0

-- what became of the output: the bytes that it took, where it tells them, and how many writes
-- failed
pub record Output : Type 0 where
  pub before : Errors
  pub after : Errors

abbrev pub output_of : (before after : Errors) → Output
output_of before after = record { before = before; after = after }

-- a write failed
abbrev pub Failed : Output → Type 0
Failed out = Rose out.before.faults out.after.faults

-- none failed, and this was written
pub record Printed (out : Output) (line : List ℕ) : Type 0 where
  pub written : Appends out.before.taken out.after.taken line
  pub none_failed : out.after.faults ≡ out.before.faults
