-- What the words of munge ask for.
use Rattle.std.specs.Prelude.{ℕ, Bool, true, false, bytes_eq, codes, if◌then◌else◌, List, [], ◌∷◌, option_and_then}
use Rattle.std.specs.declared.option.Option.{Option}
use Rattle.std.specs.declared.option.Option.TheVariants.{None, Some}
use Rattle.clap.specs.Words.{App, Kinds, Row, Rule, Text, fault_of, first_of, matches_of}
use Rattle.munge_tools.specs.Words.{app_with, flag_rule, is_on, number_or, read_or, socket_of, text_rule, where_none}

-- the options of munge
abbrev pub munge_rules : List Rule
munge_rules =
    text_rule (codes "string") 115
    ∷ flag_rule (codes "no-input") 110
    ∷ text_rule (codes "cipher") 99
    ∷ text_rule (codes "mac") 109
    ∷ text_rule (codes "restrict-uid") 117
    ∷ text_rule (codes "restrict-gid") 103
    ∷ text_rule (codes "ttl") 116
    ∷ text_rule (codes "socket") 83
    ∷ []

-- the command of munge
unfoldable pub munge_app : App
munge_app = app_with (codes "munge") munge_rules

-- the faults that `clap` finds in the words, none where it takes them
unfoldable pub munge_faults : List Text → Kinds
munge_faults words = fault_of munge_app words

-- what it finds in the words that it takes
unfoldable pub munge_rows : List Text → List Row
munge_rows words = matches_of munge_app words

-- the largest number of 32 bits, as a UID or a GID any at all
abbrev pub any_id : ℕ
any_id = 4294967295

-- the number of a cipher's name, where 1 is the daemon's default
abbrev pub cipher_of : Text → Option ℕ
cipher_of name = if bytes_eq name (codes "none") then Some 0
    else (if bytes_eq name (codes "default") then Some 1
    else (if bytes_eq name (codes "aes128") then Some 4
    else (if bytes_eq name (codes "aes256") then Some 5
    else None)))

-- the number of a MAC's name, where 1 is the daemon's default
abbrev pub mac_of : Text → Option ℕ
mac_of name = if bytes_eq name (codes "default") then Some 1
    else (if bytes_eq name (codes "sha1") then Some 3
    else (if bytes_eq name (codes "sha256") then Some 5
    else (if bytes_eq name (codes "sha512") then Some 6
    else None)))

-- what is to be sealed: a text, or nothing, or what the input has
pub data Payload : Type 0 where
  text : Text → Payload
  nothing : Payload
  input : Payload

-- what is to be sealed, by the text that is given and whether no input is to be read; not both
-- may be given
abbrev pub payload_of : Option Text → (no_input : Bool) → Option Payload
payload_of (Some given) true = None
payload_of (Some given) false = Some (text given)
payload_of None true = Some nothing
payload_of None false = Some input

-- what munge is asked to seal, and how
pub record AskedMunge : Type 0 where
  pub payload : Payload
  pub cipher : ℕ
  pub mac : ℕ
  pub for_uid : ℕ
  pub for_gid : ℕ
  pub ttl : ℕ
  pub socket : Text

-- what the rows of a parse ask for: nothing where a name or a number is outside its table, or a
-- text is given and no input is to be read
abbrev pub munge_asked_of : List Row → Option AskedMunge
munge_asked_of rows =
    option_and_then (λ payload. option_and_then (λ cipher. option_and_then (λ mac.
    option_and_then (λ for_uid. option_and_then (λ for_gid. option_and_then (λ ttl.
    Some (record {
      payload = payload;
      cipher = cipher;
      mac = mac;
      for_uid = for_uid;
      for_gid = for_gid;
      ttl = ttl;
      socket = socket_of rows;
    }))
    (number_or 0 any_id 0 (first_of (codes "ttl") rows)))
    (number_or 0 any_id any_id (first_of (codes "restrict-gid") rows)))
    (number_or 0 any_id any_id (first_of (codes "restrict-uid") rows)))
    (read_or 1 mac_of (first_of (codes "mac") rows)))
    (read_or 1 cipher_of (first_of (codes "cipher") rows)))
    (payload_of (first_of (codes "string") rows) (is_on (first_of (codes "no-input") rows)))

-- what the words of munge ask for; nothing where they are refused
abbrev pub munge_asked : List Text → Option AskedMunge
munge_asked words = where_none (munge_faults words) (munge_asked_of (munge_rows words))
