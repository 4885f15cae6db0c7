-- The sockets that an option file lists, and their refusals.
use Rattle.std.specs.Prelude.{ℕ, Bool, false, ◌+◌, List, [], ◌∷◌, ◌++◌, map, if◌then◌else◌}
use Rattle.std.specs.List.{list_any}
use Rattle.std.specs.Str.{bytes_eq}
use Rattle.std.specs.declared.option.Option.{Option}
use Rattle.std.specs.declared.option.Option.TheVariants.{None, Some}
use Rattle.toml.specs.Data.{Data, Members, no_members, as_table}
use Rattle.munge_types.specs.declared.identity.Identity.{Identity}
use Rattle.option_file.specs.KnownKeys.{unknown_refusal}
use Rattle.option_file.specs.Rules.{first_of, needed, list, socket_rules}
use Rattle.option_file.specs.Values.{at_key, text_or, whole_or, flag_or, list_or_none}
use Rattle.option_file.specs.declared.key.Key.TheVariants as key
use Rattle.option_file.specs.declared.known_keys.Place.TheVariants as place
use Rattle.option_file.specs.declared.refused.OptionRefused.{OptionRefused}
use Rattle.option_file.specs.declared.refused.OptionRefused.TheVariants.{Wrong, Twice}
use Rattle.option_file.specs.declared.sockets.SocketLine.{SocketLine}

-- the first refusal of a listed value: it is no table, has an unknown key, or breaks a rule
abbrev pub socket_refusal : Data → Option OptionRefused
socket_refusal value = in_table (as_table value)
  where
    in_table : Option Members → Option OptionRefused
    in_table None = Some (Wrong key.Socket)
    in_table (Some members) =
        first_of (unknown_refusal place.Socket members ∷ socket_rules members)

-- who the callers are on a socket
abbrev pub identity_in : Members → Identity
identity_in members = record {
  uid = whole_or 0 (at_key key.SocketUid members);
  gid = whole_or 0 (at_key key.SocketGid members);
  control = flag_or false (at_key key.SocketControl members);
}

-- what a socket's table says
abbrev pub line_in : Members → SocketLine
line_in members = record {
  path = text_or [] (at_key key.SocketPath members);
  who = identity_in members;
}

-- what a listed value says
abbrev pub line_of : Data → SocketLine
line_of value = of_table (as_table value)
  where
    of_table : Option Members → SocketLine
    of_table None = line_in no_members
    of_table (Some members) = line_in members

-- one of the sockets has this path
abbrev pub has_path : List SocketLine → List ℕ → Bool
has_path lines path = list_any (λ (line : SocketLine). bytes_eq line.path path) lines

-- the place, from `at` on, of the first line whose path one before it has; `before` are the lines
-- in front of these
abbrev pub first_twice : (before : List SocketLine) → (at : ℕ) → List SocketLine → Option ℕ
first_twice before at [] = None
first_twice before at (line ∷ lines) =
    (if has_path before line.path then Some at
    else first_twice (before ++ line ∷ []) (at + 1) lines)

-- two sockets have one path
abbrev pub twice_refusal : List SocketLine → Option OptionRefused
twice_refusal lines = refusal (first_twice [] 0 lines)
  where
    refusal : Option ℕ → Option OptionRefused
    refusal None = None
    refusal (Some at) = Some (Twice at)

-- the rules of the key `socket`: of the list, then of each listed value in order, then of their
-- paths
abbrev pub sockets_rules : Option Data → List (Option OptionRefused)
sockets_rules found =
    needed list key.Socket found
    ∷ first_of (map socket_refusal (list_or_none found))
    ∷ twice_refusal (map line_of (list_or_none found)) ∷ []

-- the first refusal at the key `socket`
abbrev pub sockets_refusal : Option Data → Option OptionRefused
sockets_refusal found = first_of (sockets_rules found)
