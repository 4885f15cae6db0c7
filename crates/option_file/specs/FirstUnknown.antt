-- The first unknown key of a table, by what it is.
use Rattle.std.specs.Prelude.{◌≡◌, ◌≢◌, ℕ, List, Bool, true, false, is_some}
use Rattle.std.specs.Cmp.Lexicographic.{slice_cmp}
use Rattle.std.specs.Ordering.{nat_cmp}
use Rattle.std.specs.declared.cmp.Ordering.TheVariants.{Less}
use Rattle.toml.specs.Data.{Members, get_member}
use Rattle.option_file.specs.KnownKeys.{is_known}
use Rattle.option_file.specs.declared.known_keys.Place.{Place}

-- the table has a value at this key
abbrev pub has_key : List ℕ → Members → Bool
has_key name members = is_some (get_member name members)

-- the key is unknown and there, and no unknown key that is there comes before it in byte order
pub record IsFirstUnknown (at : Place) (members : Members) (name : List ℕ) : Type 0 where
  pub unknown : is_known at name ≡ false
  pub there : has_key name members ≡ true
  pub first : (other : List ℕ) → has_key other members ≡ true → is_known at other ≡ false
      → slice_cmp nat_cmp other name ≢ Less
