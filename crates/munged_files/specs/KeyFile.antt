-- What is read of a key file.
use Rattle.std.specs.Prelude.{◌≡◌, ℕ, ◌≤◌, List, length, Option}
use Rattle.byte_io.specs.Files.{ReadsFile}
use Rattle.subkeys.specs.Subkeys.{SubkeyPair, IsOf}
use Rattle.munged_files.specs.Ending.{Ending}
use Rattle.munged_files.specs.Ending as ending

-- the most bytes that are read of a key file, one more than it may have
abbrev pub key_room : ℕ
key_room = 1025

-- a key has so many bytes
pub record IsKey (key : List ℕ) : Type 0 where
  pub not_short : 32 ≤ length key
  pub not_long : length key ≤ 1024

-- this key was read of the file of that name
pub record HoldsKey (files : Option (List (List ℕ × List ℕ))) (name key : List ℕ) : Type 0 where
  pub read : ReadsFile files name key_room key
  pub fits : IsKey key

-- these are the subkeys of a key that was read of the file of that name
pub record IsKeyOf (files : Option (List (List ℕ × List ℕ))) (name : List ℕ)
    (subkeys : SubkeyPair) : Type 0 where
  pub key : List ℕ
  pub holds : HoldsKey files name key
  pub subkeys_are : IsOf subkeys key

-- the file of that name gave no key, and the program ends so
pub data GivesNoKey (files : Option (List (List ℕ × List ℕ))) (name : List ℕ) (how : Ending)
    : Type 0 where
  -- it was not read
  unread : how ≡ ending.unread name → GivesNoKey files name how
  -- what was read of it is no key
  refused : (bytes : List ℕ) → ReadsFile files name key_room bytes → ¬ IsKey bytes
      → how ≡ ending.wrong_size name (length bytes) → GivesNoKey files name how
  -- there was no memory for it
  no_memory : how ≡ ending.no_memory → GivesNoKey files name how
