-- The keys that a table may have, and the first that it may not have.
use Rattle.std.specs.Prelude.{ℕ, List, [], ◌∷◌, Bool, if◌then◌else◌, map}
use Rattle.std.specs.Cmp.Lexicographic.{slice_cmp}
use Rattle.std.specs.List.{list_any}
use Rattle.std.specs.Ordering.{nat_cmp, is_lt}
use Rattle.std.specs.Str.{bytes_eq}
use Rattle.std.specs.declared.option.Option.{Option}
use Rattle.std.specs.declared.option.Option.TheVariants.{None, Some}
use Rattle.toml.specs.Data.{Members, no_members, member}
use Rattle.option_file.specs.KeyNames.{spelling_of}
use Rattle.option_file.specs.declared.key.Key.{Key}
use Rattle.option_file.specs.declared.key.Key.TheVariants as key
use Rattle.option_file.specs.declared.known_keys.Place.{Place}
use Rattle.option_file.specs.declared.known_keys.Place.TheVariants as place
use Rattle.option_file.specs.declared.refused.OptionRefused.{OptionRefused}
use Rattle.option_file.specs.declared.refused.OptionRefused.TheVariants.{Unknown}

-- the keys of a file's own table, and those of a socket's
abbrev pub keys_of : Place → List Key
keys_of place.File =
    key.KeyFile ∷ key.Seed ∷ key.Passwd ∷ key.Group ∷ key.MaxTtl ∷ key.DefaultTtl ∷ key.Skew
    ∷ key.PurgeInterval ∷ key.Address ∷ key.Workers ∷ key.Queue ∷ key.Socket ∷ []
keys_of place.Socket =
    key.SocketPath ∷ key.SocketUid ∷ key.SocketGid ∷ key.SocketControl ∷ []

-- a table of that place may have the key
abbrev pub is_known : Place → List ℕ → Bool
is_known at name = list_any (bytes_eq name) (map spelling_of (keys_of at))

-- the first of two texts in byte order
abbrev pub earlier : List ℕ → Option (List ℕ) → Option (List ℕ)
earlier name None = Some name
earlier name (Some other) =
    (if is_lt (slice_cmp nat_cmp name other) then Some name else Some other)

-- the first key, in byte order, that the table may not have, wherever it stands among the members
abbrev pub first_unknown : Place → Members → Option (List ℕ)
first_unknown at no_members = None
first_unknown at (member name value members) =
    (if is_known at name then first_unknown at members
    else earlier name (first_unknown at members))

-- the table has a key that it may not have
abbrev pub unknown_refusal : Place → Members → Option OptionRefused
unknown_refusal at members = refusal (first_unknown at members)
  where
    refusal : Option (List ℕ) → Option OptionRefused
    refusal None = None
    refusal (Some name) = Some (Unknown name)
