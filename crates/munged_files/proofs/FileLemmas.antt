-- What the bytes of a file come to, or their want.
use Rattle.std.proofs.Common.{◌≡◌, ℕ, ◌≤◌, inl, inr, List, length, Option, Some, option_map, ap}
use Rattle.munged_files.specs.Ending.{Ending}
use Rattle.munged_files.specs.KeyFile.{IsKey}
use Rattle.munged_files.specs.SeedFile.{GivesNoSeed}
use Rattle.munged_files.specs.SeedFile as seeds
use Rattle.munged_files.specs.Unread.{IsUnread}

-- bytes of another size are no key
pub not_a_key : (bytes : List ℕ) → ¬ ((32 ≤ length bytes) × (length bytes ≤ 1024)) → ¬ IsKey bytes
not_a_key bytes unfit key = unfit (key.not_short, key.not_long)

-- the name that an option of a borrowed text tells
pub name_told : {T : Type 0} (now : T → List ℕ) (named : Option T) (name : T)
    → named ≡ Some name → option_map now named ≡ Some (now name)
name_told now named name is = ap (option_map now) is

-- how the program ends without the bytes of a seed file that is named
pub seed_unread : (files : Option (List (List ℕ × List ℕ))) (named : Option (List ℕ))
    (name : List ℕ) (how : Ending) → named ≡ Some name → IsUnread name how
    → GivesNoSeed files named how
seed_unread files named name how is (inl fault) = seeds.unread name is fault
seed_unread files named name how is (inr none) = seeds.no_memory name is none
