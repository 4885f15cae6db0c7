-- How the program ends where a file was not read.
use Rattle.std.specs.Prelude.{◌≡◌, ℕ, ◌⊎◌, List}
use Rattle.munged_files.specs.Ending.{Ending}
use Rattle.munged_files.specs.Ending as ending

-- it could not be read, or there was no memory for it
abbrev pub IsUnread : (name : List ℕ) → (how : Ending) → Type 0
IsUnread name how = (how ≡ ending.unread name) ⊎ (how ≡ ending.no_memory)
