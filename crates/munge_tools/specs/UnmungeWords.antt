-- What the words of unmunge ask for.
use Rattle.std.specs.Prelude.{Bool, codes, List, [], ◌∷◌}
use Rattle.std.specs.declared.option.Option.{Option}
use Rattle.std.specs.declared.option.Option.TheVariants.{Some}
use Rattle.clap.specs.Words.{App, Kinds, Row, Rule, Text, fault_of, first_of, matches_of}
use Rattle.munge_tools.specs.Words.{app_with, flag_rule, is_on, socket_of, text_rule, where_none}

-- the options of unmunge
abbrev pub unmunge_rules : List Rule
unmunge_rules = flag_rule (codes "no-output") 110 ∷ text_rule (codes "socket") 83 ∷ []

-- the command of unmunge
unfoldable pub unmunge_app : App
unmunge_app = app_with (codes "unmunge") unmunge_rules

-- the faults that `clap` finds in the words, none where it takes them
unfoldable pub unmunge_faults : List Text → Kinds
unmunge_faults words = fault_of unmunge_app words

-- what it finds in the words that it takes
unfoldable pub unmunge_rows : List Text → List Row
unmunge_rows words = matches_of unmunge_app words

-- whether nothing is to be printed, and the path of the daemon's socket
pub record AskedUnmunge : Type 0 where
  pub no_output : Bool
  pub socket : Text

-- what the rows of a parse ask for
abbrev pub unmunge_asked_of : List Row → AskedUnmunge
unmunge_asked_of rows =
    record { no_output = is_on (first_of (codes "no-output") rows); socket = socket_of rows }

-- what the words of unmunge ask for; nothing where they are refused
abbrev pub unmunge_asked : List Text → Option AskedUnmunge
unmunge_asked words =
    where_none (unmunge_faults words) (Some (unmunge_asked_of (unmunge_rows words)))
