-- What the keys of a table ask of their values, each with its refusal.
use Rattle.std.specs.Prelude.{ℕ, Bool, false, ◌&&◌, ℤ, pos, negsuc, List, [], ◌∷◌, length, nat_le, if◌then◌else◌}
use Rattle.std.specs.declared.option.Option.{Option}
use Rattle.std.specs.declared.option.Option.TheVariants.{None, Some}
use Rattle.toml.specs.Data.{Data, Items, Members, as_str, as_integer, as_bool, as_array}
use Rattle.option_file.specs.Address.{address_of}
use Rattle.option_file.specs.Values.{at_key, whole_or, values_of}
use Rattle.option_file.specs.declared.key.Key.{Key}
use Rattle.option_file.specs.declared.key.Key.TheVariants as key
use Rattle.option_file.specs.declared.refused.OptionRefused.{OptionRefused}
use Rattle.option_file.specs.declared.refused.OptionRefused.TheVariants.{Missing, Wrong, Range}

-- the first refusal of some in order, if there is any
abbrev pub first_of : List (Option OptionRefused) → Option OptionRefused
first_of [] = None
first_of (refusal ∷ refusals) = refusal_or refusal (first_of refusals)
  where
    refusal_or : Option OptionRefused → Option OptionRefused → Option OptionRefused
    refusal_or None later = later
    refusal_or (Some refused) later = Some refused

-- the value is of another kind than the key asks for
abbrev pub wrong : {A : Type 0} → Key → Option A → Option OptionRefused
wrong key None = Some (Wrong key)
wrong key (Some given) = None

-- a text
abbrev pub text : Key → Data → Option OptionRefused
text key value = wrong key (as_str value)

-- true or false
abbrev pub flag : Key → Data → Option OptionRefused
flag key value = wrong key (as_bool value)

-- a text that spells an address
abbrev pub address : Key → Data → Option OptionRefused
address key value = spelled (as_str value)
  where
    spelled : Option (List ℕ) → Option OptionRefused
    spelled None = Some (Wrong key)
    spelled (Some written) = wrong key (address_of written)

-- the number lies between these two, which count
abbrev pub is_within : (low high : ℕ) → ℤ → Bool
is_within low high (pos n) = nat_le low n && nat_le n high
is_within low high (negsuc n) = false

-- a whole number from `low` to `high`
abbrev pub whole : (low high : ℕ) → Key → Data → Option OptionRefused
whole low high key value = numbered (as_integer value)
  where
    numbered : Option ℤ → Option OptionRefused
    numbered None = Some (Wrong key)
    numbered (Some n) = (if is_within low high n then None else Some (Range key n))

-- so many sockets may be listed
abbrev pub is_list_size : ℕ → Bool
is_list_size size = nat_le 1 size && nat_le size 64

-- a list of 1 to 64 values
abbrev pub list : Key → Data → Option OptionRefused
list key value = listed (as_array value)
  where
    counted : ℕ → Option OptionRefused
    counted size = (if is_list_size size then None else Some (Range key (pos size)))

    listed : Option Items → Option OptionRefused
    listed None = Some (Wrong key)
    listed (Some items) = counted (length (values_of items))

-- a key that has to be there, and what is asked of its value
abbrev pub needed : (asked : Key → Data → Option OptionRefused) → Key → Option Data
    → Option OptionRefused
needed asked key None = Some (Missing key)
needed asked key (Some value) = asked key value

-- a key that may be there, and what is asked of its value then
abbrev pub allowed : (asked : Key → Data → Option OptionRefused) → Key → Option Data
    → Option OptionRefused
allowed asked key None = None
allowed asked key (Some value) = asked key value

-- the rules of the files' names
abbrev pub name_rules : Members → List (Option OptionRefused)
name_rules members =
    needed text key.KeyFile (at_key key.KeyFile members)
    ∷ allowed text key.Seed (at_key key.Seed members)
    ∷ allowed text key.Passwd (at_key key.Passwd members)
    ∷ allowed text key.Group (at_key key.Group members) ∷ []

-- the longest time to live, in seconds: 3600 where none is given
abbrev pub max_ttl_of : Members → ℕ
max_ttl_of members = whole_or 3600 (at_key key.MaxTtl members)

-- the rules of the times, in seconds
abbrev pub time_rules : Members → List (Option OptionRefused)
time_rules members =
    allowed (whole 1 3600) key.MaxTtl (at_key key.MaxTtl members)
    ∷ allowed (whole 1 (max_ttl_of members)) key.DefaultTtl (at_key key.DefaultTtl members)
    ∷ allowed (whole 0 300) key.Skew (at_key key.Skew members)
    ∷ allowed (whole 1 60) key.PurgeInterval (at_key key.PurgeInterval members) ∷ []

-- the rules of the workers and of what waits for them
abbrev pub crew_rules : Members → List (Option OptionRefused)
crew_rules members =
    allowed (whole 1 64) key.Workers (at_key key.Workers members)
    ∷ allowed (whole 1 1024) key.Queue (at_key key.Queue members) ∷ []

-- the rules of a socket's table
abbrev pub socket_rules : Members → List (Option OptionRefused)
socket_rules members =
    needed text key.SocketPath (at_key key.SocketPath members)
    ∷ needed (whole 0 4294967294) key.SocketUid (at_key key.SocketUid members)
    ∷ needed (whole 0 4294967294) key.SocketGid (at_key key.SocketGid members)
    ∷ allowed flag key.SocketControl (at_key key.SocketControl members) ∷ []
