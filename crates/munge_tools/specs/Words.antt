-- The words of a command line, without the program's name, as `clap` reads them.
use Rattle.std.specs.Prelude.{ℕ, Bool, ◌&&◌, true, false, nat_lt, nat_le, bytes_eq, codes, if◌then◌else◌, List, [], ◌∷◌, length}
use Rattle.std.specs.List.{list_all}
use Rattle.std.specs.Option.{option_map_or}
use Rattle.std.specs.Str.Parse.{digits_value}
use Rattle.std.specs.declared.option.Option.{Option}
use Rattle.std.specs.declared.option.Option.TheVariants.{None, Some}
use Rattle.clap.specs.Words.{App, Kinds, Row, Rule, Text, first_of, new_rule}
use Rattle.clap.specs.Simple.{new_shape}
use Rattle.clap.specs.declared.builder.ArgAction.TheVariants.{SetTrue}

-- an option with one text
abbrev pub text_rule : (name : Text) → (short : ℕ) → Rule
text_rule name short = record (new_rule name) { long = Some name; short = Some short }

-- an option without a value
abbrev pub flag_rule : (name : Text) → (short : ℕ) → Rule
flag_rule name short = record (text_rule name short) { action = Some SetTrue }

-- a command of this name with these options, of words without the program's name
abbrev pub app_with : (name : Text) → List Rule → App
app_with name rules =
    record {
      top = record (new_shape name) {
        rules = rules;
        no_binary_name = true;
        disable_help_flag = true;
      };
      subs = [];
    }

-- what is read of words in which `clap` finds no fault
abbrev pub where_none : {X : Type 0} → Kinds → Option X → Option X
where_none [] read = read
where_none (kind ∷ kinds) read = None

-- an ASCII digit
abbrev pub is_digit : ℕ → Bool
is_digit byte = nat_le 48 byte && nat_le byte 57

-- one or more digits
abbrev pub is_numeral : Text → Bool
is_numeral word = nat_lt 0 (length word) && list_all is_digit word

-- the number that a word spells, if it spells one from the least to the most; zeros may lead
abbrev pub number_of : (least most : ℕ) → Text → Option ℕ
number_of least most word =
    let value = digits_value 10 word in
    if is_numeral word && (nat_le least value && nat_le value most) then Some value else None

-- what a value is read as, or the fallback where none is given
abbrev pub read_or : {X : Type 0} → (fallback : X) → (Text → Option X) → Option Text → Option X
read_or fallback read given = option_map_or read given (Some fallback)

-- the number that is given within these bounds, or the fallback
abbrev pub number_or : (least most fallback : ℕ) → Option Text → Option ℕ
number_or least most fallback given = read_or fallback (number_of least most) given

-- an option without a value is given
abbrev pub is_on : Option Text → Bool
is_on given = option_map_or (λ text. bytes_eq text (codes "true")) given false

-- the path of the daemon's socket: what is given, or the usual one
abbrev pub socket_of : List Row → Text
socket_of rows =
    option_map_or (λ path. path) (first_of (codes "socket") rows) (codes "munge.socket")
