-- What `clap` says of the words of a command.
use Rattle.std.proofs.Common.{◌≡◌, ◌∙◌, List, [], ◌∷◌, ◌++◌, true, sym, ap, subst, inl, inr}
use Rattle.clap.specs.Words.{App, HasMatchesOf, HasKind, IsAmong, Kinds, Rule, Text, fault_of, found_of, is_simple, is_simple_and_free, kind_of, matches_of, rows_of, with_rule}
use Rattle.clap.specs.declared.error.Error.{Error}
use Rattle.clap.specs.declared.error.kind.ErrorKind.TheVariants.{OutOfMemory}
use Rattle.clap.specs.declared.parser.matches.ArgMatches.{ArgMatches}
use Rattle.munge_tools.specs.Words.{app_with}

-- a command with one more option
pub added : (name : Text) (rules : List Rule) (rule : Rule) (a b : App) → a ≡ app_with name rules → b ≡ with_rule a rule
    → b ≡ app_with name (rules ++ rule ∷ [])
added name rules rule a b before after = after ∙ ap (λ (x : App). with_rule x rule) before

-- words that are taken
pub taken : (app a : App) (words : List Text) (m : ArgMatches) → is_simple_and_free app ≡ true → is_simple app ≡ true → a ≡ app
    → HasMatchesOf a words m → (is_simple_and_free a ≡ true → fault_of a words ≡ [])
    → (fault_of app words ≡ []) × (rows_of (found_of m) ≡ matches_of app words)
taken app a words m free simple e matches faultless = (
  sym (ap (λ (x : App). fault_of x words) e) ∙ faultless (ap is_simple_and_free e ∙ free),
  (matches (ap is_simple e ∙ simple)).0 ∙ ap (λ (x : App). matches_of x words) e,
)

not_among : (kinds : Kinds) (e : Error) → kinds ≡ [] → HasKind kinds e → (kind_of e ≡ OutOfMemory → ⊥) → ⊥
not_among kinds e none (inl memory) other = other memory
not_among kinds e none (inr among) other = subst (IsAmong (kind_of e)) none among

-- words that are refused
pub refused : (app a : App) (words : List Text) (x : Error) → is_simple_and_free app ≡ true → a ≡ app
    → (is_simple_and_free a ≡ true → HasKind (fault_of a words) x) → (kind_of x ≡ OutOfMemory → ⊥) → fault_of app words ≡ [] → ⊥
refused app a words x free e kinds other none =
    not_among (fault_of a words) x (ap (λ (y : App). fault_of y words) e ∙ none) (kinds (ap is_simple_and_free e ∙ free)) other
