-- The first cause to refuse an option file.
use Rattle.std.specs.Prelude.{ℕ, List, [], ◌∷◌, length, nat_lt, if◌then◌else◌, unwrap_or}
use Rattle.std.specs.Str.{is_utf8}
use Rattle.std.specs.declared.option.Option.{Option}
use Rattle.std.specs.declared.option.Option.TheVariants.{None, Some}
use Rattle.toml.specs.Data.{Members, no_members}
use Rattle.toml.specs.Parse.{parse_document}
use Rattle.option_file.specs.KnownKeys.{unknown_refusal}
use Rattle.option_file.specs.Limits.{file_limit}
use Rattle.option_file.specs.Rules.{first_of, allowed, address, name_rules, time_rules, crew_rules}
use Rattle.option_file.specs.Sockets.{sockets_refusal}
use Rattle.option_file.specs.Values.{at_key}
use Rattle.option_file.specs.declared.key.Key.TheVariants as key
use Rattle.option_file.specs.declared.known_keys.Place.TheVariants as place
use Rattle.option_file.specs.declared.refused.OptionRefused.{OptionRefused}
use Rattle.option_file.specs.declared.refused.OptionRefused.TheVariants.{TooLong, NotToml}

-- the rules of a file's table: no unknown key; then the keys in their order, of which `socket` is
-- the last
abbrev pub table_rules : Members → List (Option OptionRefused)
table_rules members =
    unknown_refusal place.File members
    ∷ first_of (name_rules members)
    ∷ first_of (time_rules members)
    ∷ allowed address key.Address (at_key key.Address members)
    ∷ first_of (crew_rules members)
    ∷ sockets_refusal (at_key key.Socket members) ∷ []

-- the first cause in a file's table
abbrev pub table_refusal : Members → Option OptionRefused
table_refusal members = first_of (table_rules members)

-- the table that bytes are, as TOML has it
abbrev pub document_of : List ℕ → Option Members
document_of bytes = (if is_utf8 bytes then parse_document bytes else None)

-- the cause in the bytes themselves: they are too many, or no TOML
abbrev pub document_refusal : List ℕ → Option OptionRefused
document_refusal bytes =
    (if nat_lt file_limit (length bytes) then Some (TooLong (length bytes))
    else of_document (document_of bytes))
  where
    of_document : Option Members → Option OptionRefused
    of_document None = Some NotToml
    of_document (Some _) = None

-- the table that bytes are which are not refused
abbrev pub table_in : List ℕ → Members
table_in bytes = unwrap_or (document_of bytes) no_members

-- the first cause in a file: in its bytes, or in its table
abbrev pub first_refusal : List ℕ → Option OptionRefused
first_refusal bytes =
    first_of (document_refusal bytes ∷ table_refusal (table_in bytes) ∷ [])
