-- What the words of a command line ask for, without the program's name.
use Rattle.std.specs.Prelude.{ℕ, Bool, ◌&&◌, false, nat_lt, nat_le, bytes_eq, codes, if◌then◌else◌, List, [], ◌∷◌, length, option_map}
use Rattle.std.specs.List.{list_all}
use Rattle.std.specs.Str.Parse.{digits_value}
use Rattle.std.specs.declared.option.Option.{Option}
use Rattle.std.specs.declared.option.Option.TheVariants.{None, Some}
use Rattle.munge_types.specs.declared.identity.Identity.{Identity}

-- a session under the key of this file, for the caller with this UID and GID, with the seed of a
-- file if one is named
pub record AskedSession : Type 0 where
  pub key_file : List ℕ
  pub uid : ℕ
  pub gid : ℕ
  pub seed_file : Option (List ℕ)

-- its caller, who has no control
abbrev pub caller_of : AskedSession → Identity
caller_of asked = record { uid = asked.uid; gid = asked.gid; control = false }

-- a session, or that the option file of this path is checked
pub data Command : Type 0 where
  session : AskedSession → Command
  check : (config : List ℕ) → Command

-- an ASCII digit
abbrev pub is_digit : ℕ → Bool
is_digit byte = nat_le 48 byte && nat_le byte 57

-- one or more digits, at most 20
abbrev pub is_numeral : List ℕ → Bool
is_numeral word =
    (nat_lt 0 (length word) && nat_le (length word) 20) && list_all is_digit word

-- the largest UID and GID of a caller
abbrev pub largest_id : ℕ
largest_id = 4294967294

-- the UID or GID that a word spells, if it spells one; zeros may lead
abbrev pub id_of : List ℕ → Option ℕ
id_of word =
    let value = digits_value 10 word in
    if is_numeral word && nat_le value largest_id then Some value else None

-- a session of these parts
abbrev pub session_with : (key_file : List ℕ) → (uid gid : Option ℕ)
    → (seed_file : Option (List ℕ)) → Option AskedSession
session_with key_file (Some uid) (Some gid) seed_file =
    Some (record { key_file = key_file; uid = uid; gid = gid; seed_file = seed_file })
session_with key_file (Some uid) None seed_file = None
session_with key_file None gid seed_file = None

-- what a command of this name asks for, if it is `session`
abbrev pub session_of : (name key_file uid gid : List ℕ) → (seed_file : Option (List ℕ))
    → Option AskedSession
session_of name key_file uid gid seed_file =
    if bytes_eq name (codes "session")
    then session_with key_file (id_of uid) (id_of gid) seed_file else None

-- what a command of this name asks for, if it is `check`
abbrev pub check_of : (name config : List ℕ) → Option Command
check_of name config = if bytes_eq name (codes "check") then Some (check config) else None

-- what the words ask for, if it is something: `session KEYFILE UID GID`,
-- `session KEYFILE UID GID SEEDFILE`, or `check CONFIG`
abbrev pub command_of : List (List ℕ) → Option Command
command_of (name ∷ config ∷ []) = check_of name config
command_of (name ∷ key_file ∷ uid ∷ gid ∷ []) =
    option_map session (session_of name key_file uid gid None)
command_of (name ∷ key_file ∷ uid ∷ gid ∷ seed_file ∷ []) =
    option_map session (session_of name key_file uid gid (Some seed_file))
command_of words = None
