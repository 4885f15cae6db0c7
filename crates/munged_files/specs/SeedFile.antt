-- What is read of a seed file.
use Rattle.std.specs.Prelude.{◌≡◌, ℕ, ◌*◌, ◌<◌, ◌≤◌, List, drop, length, map, take}
use Rattle.std.specs.List.{range_with_len}
use Rattle.std.specs.declared.option.Option.{Option}
use Rattle.std.specs.declared.option.Option.TheVariants.{None, Some}
use Rattle.byte_io.specs.Files.{ReadsFile, file_of}
use Rattle.munged_files.specs.Ending.{Ending}
use Rattle.munged_files.specs.Ending as ending
use Rattle.munged_files.specs.Unread.{IsUnread}

-- the bytes of a seed, and the most that are read of a seed file
abbrev pub seed_size : ℕ
seed_size = 32

-- the seed is the first bytes of the file of that name
pub record IsSeedIn (files : Option (List (List ℕ × List ℕ))) (name : List ℕ)
    (seed : Option (List ℕ)) : Type 0 where
  pub bytes : List ℕ
  pub read : ReadsFile files name seed_size bytes
  pub whole : length bytes ≡ seed_size
  pub seed_is : seed ≡ Some bytes

-- the seed of a session: that of the file, if one is named
abbrev pub IsSeedOf : (files : Option (List (List ℕ × List ℕ)))
    → (seed_file seed : Option (List ℕ)) → Type 0
IsSeedOf files None seed = seed ≡ None
IsSeedOf files (Some name) seed = IsSeedIn files name seed

-- a file is named that gave no seed, and the program ends so
pub data GivesNoSeed (files : Option (List (List ℕ × List ℕ))) (seed_file : Option (List ℕ))
    (how : Ending) : Type 0 where
  -- it was not read
  unread : (name : List ℕ) → seed_file ≡ Some name → how ≡ ending.unread name
      → GivesNoSeed files seed_file how
  -- what was read of it is too short
  refused : (name bytes : List ℕ) → seed_file ≡ Some name → ReadsFile files name seed_size bytes
      → length bytes < seed_size → how ≡ ending.wrong_size name (length bytes)
      → GivesNoSeed files seed_file how
  -- there was no memory for it
  no_memory : (name : List ℕ) → seed_file ≡ Some name → how ≡ ending.no_memory
      → GivesNoSeed files seed_file how

-- a file of that name is told, and is long enough for a seed, which is this one
pub record TellsSeedIn (told : List (List ℕ × List ℕ)) (name : List ℕ)
    (seed : Option (List ℕ)) : Type 0 where
  pub bytes : List ℕ
  pub bytes_told : file_of told name ≡ Some bytes
  pub long : seed_size ≤ length bytes
  pub seed_is : seed ≡ Some (take seed_size bytes)

-- what told files say of the seed of a session
abbrev pub TellsSeed : (told : List (List ℕ × List ℕ)) → (seed_file seed : Option (List ℕ))
    → Type 0
TellsSeed told None seed = seed ≡ None
TellsSeed told (Some name) seed = TellsSeedIn told name seed

-- the bytes of so many seeds, and the most that are read for them
abbrev pub seeds_size : (workers : ℕ) → ℕ
seeds_size workers = seed_size * workers

-- the seed of the worker of this number, counted from 0, in these bytes
abbrev pub seed_at : (bytes : List ℕ) → (worker : ℕ) → List ℕ
seed_at bytes worker = take seed_size (drop (seed_size * worker) bytes)

-- the seeds of so many workers, in order
abbrev pub seeds_in : (bytes : List ℕ) → (workers : ℕ) → List (List ℕ)
seeds_in bytes workers = map (seed_at bytes) (range_with_len 0 workers)

-- the seeds of so many workers are the first bytes of the file of that name, one behind the other
pub record AreSeedsIn (files : Option (List (List ℕ × List ℕ))) (name : List ℕ) (workers : ℕ)
    (seeds : List (List ℕ)) : Type 0 where
  pub bytes : List ℕ
  pub read : ReadsFile files name (seeds_size workers) bytes
  pub whole : length bytes ≡ seeds_size workers
  pub seeds_are : seeds ≡ seeds_in bytes workers

-- the file of that name gave no seeds for so many workers, and the program ends so
pub data GivesNoSeeds (files : Option (List (List ℕ × List ℕ))) (name : List ℕ) (workers : ℕ)
    (how : Ending) : Type 0 where
  -- it was not read, or there was no memory for it
  seeds_unread : IsUnread name how → GivesNoSeeds files name workers how
  -- what was read of it is too short
  too_few : (bytes : List ℕ) → ReadsFile files name (seeds_size workers) bytes
      → length bytes < seeds_size workers → how ≡ ending.wrong_size name (length bytes)
      → GivesNoSeeds files name workers how
