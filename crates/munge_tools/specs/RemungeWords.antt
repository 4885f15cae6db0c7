-- What the words of remunge ask for.
use Rattle.std.specs.Prelude.{ℕ, Bool, codes, List, [], ◌∷◌, option_and_then}
use Rattle.std.specs.Option.{option_map_or}
use Rattle.std.specs.declared.option.Option.{Option}
use Rattle.std.specs.declared.option.Option.TheVariants.{Some}
use Rattle.clap.specs.Words.{App, Kinds, Row, Rule, Text, fault_of, first_of, matches_of}
use Rattle.munge_tools.specs.Words.{app_with, flag_rule, is_on, number_or, socket_of, text_rule, where_none}

-- the options of remunge
abbrev pub remunge_rules : List Rule
remunge_rules =
    text_rule (codes "num-creds") 78
    ∷ flag_rule (codes "decode") 100
    ∷ text_rule (codes "string") 115
    ∷ text_rule (codes "socket") 83
    ∷ []

-- the command of remunge
unfoldable pub remunge_app : App
remunge_app = app_with (codes "remunge") remunge_rules

-- the faults that `clap` finds in the words, none where it takes them
unfoldable pub remunge_faults : List Text → Kinds
remunge_faults words = fault_of remunge_app words

-- what it finds in the words that it takes
unfoldable pub remunge_rows : List Text → List Row
remunge_rows words = matches_of remunge_app words

-- how many credentials are to be made, 1 to 100,000; whether they are to be opened; what is to be
-- sealed; and the path of the daemon's socket
pub record AskedRemunge : Type 0 where
  pub count : ℕ
  pub decode : Bool
  pub payload : Text
  pub socket : Text

-- the text that is given, or none
abbrev pub text_or_none : Option Text → Text
text_or_none given = option_map_or (λ text. text) given []

-- what the rows of a parse ask for: nothing where the number is outside its range
abbrev pub remunge_asked_of : List Row → Option AskedRemunge
remunge_asked_of rows =
    option_and_then (λ count.
    Some (record {
      count = count;
      decode = is_on (first_of (codes "decode") rows);
      payload = text_or_none (first_of (codes "string") rows);
      socket = socket_of rows;
    }))
    (number_or 1 100000 1 (first_of (codes "num-creds") rows))

-- what the words of remunge ask for; nothing where they are refused
abbrev pub remunge_asked : List Text → Option AskedRemunge
remunge_asked words = where_none (remunge_faults words) (remunge_asked_of (remunge_rows words))
