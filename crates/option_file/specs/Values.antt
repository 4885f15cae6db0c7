-- What is given at a key of a table, and what stands there where nothing of its kind is given.
use Rattle.std.specs.Prelude.{ℕ, Bool, ℤ, pos, negsuc, List, [], ◌∷◌, Option, Some, None, option_and_then, unwrap_or}
use Rattle.toml.specs.Data.{Data, Items, no_items, item, Members, get_member, as_str, as_integer, as_bool, as_array}
use Rattle.option_file.specs.Address.{address_of}
use Rattle.option_file.specs.KeyNames.{spelling_of}
use Rattle.option_file.specs.declared.key.Key.{Key}

-- the value at a key
abbrev pub at_key : Key → Members → Option Data
at_key key members = get_member (spelling_of key) members

-- the text, if one is given
abbrev pub text_if : Option Data → Option (List ℕ)
text_if found = option_and_then as_str found

-- the text, and this one where none is given
abbrev pub text_or : List ℕ → Option Data → List ℕ
text_or usual found = unwrap_or (text_if found) usual

-- the natural number that a whole number is
abbrev pub natural_of : ℤ → Option ℕ
natural_of (pos n) = Some n
natural_of (negsuc n) = None

-- the whole number, and this one where none is given
abbrev pub whole_or : ℕ → Option Data → ℕ
whole_or usual found =
    unwrap_or (option_and_then natural_of (option_and_then as_integer found)) usual

-- the address that a text spells, and 0.0.0.0 where none is given
abbrev pub address_or_none : Option Data → List ℕ
address_or_none found =
    unwrap_or (option_and_then address_of (text_if found)) (0 ∷ 0 ∷ 0 ∷ 0 ∷ [])

-- true or false, and this one where none is given
abbrev pub flag_or : Bool → Option Data → Bool
flag_or usual found = unwrap_or (option_and_then as_bool found) usual

-- the items as a list
abbrev pub values_of : Items → List Data
values_of no_items = []
values_of (item value items) = value ∷ values_of items

-- the values that are listed, and none where no list is given
abbrev pub list_or_none : Option Data → List Data
list_or_none found = listed (option_and_then as_array found)
  where
    listed : Option Items → List Data
    listed None = []
    listed (Some items) = values_of items
