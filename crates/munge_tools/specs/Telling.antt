-- What a tool tells of itself.
use Rattle.std.specs.Prelude.{◌≡◌, ℕ, bytes_eq, codes, if◌then◌else◌, List, [], ◌∷◌, Option, None, Some}
use Rattle.std.specs.Io.KnownBytes.{Appends}
use Rattle.clap.specs.Words.{Text}
use Rattle.munge_tools.specs.Ending.{Ended, IsWithoutWords}
use Rattle.munge_tools.specs.Output.{TakesCut}
use Rattle.munge_tools.specs.declared.ending.Ending.{Ending}
use Rattle.munge_tools.specs.declared.ending.Ending.TheVariants.{Done, OutputFailed}

-- which of these texts a word asks for, if it asks for one
abbrev pub text_at : (help version : List ℕ) → Text → Option (List ℕ)
text_at help version word = if bytes_eq word (codes "--help") then Some help
    else (if bytes_eq word (codes "--version") then Some version
    else None)

-- which of them the words of a command line ask for: only a word alone asks for one
abbrev pub text_asked : (help version : List ℕ) → (words : List Text) → Option (List ℕ)
text_asked help version [] = None
text_asked help version (word ∷ []) = text_at help version word
text_asked help version (word ∷ next ∷ rest) = None

-- What comes of a text that is to be told.
pub data TellingCame (text : List ℕ) (taken taken' : Option (List ℕ)) (how : Ending) : Type 0 where
  -- it was printed
  printed : Appends taken taken' text → how ≡ Done 0 → TellingCame text taken taken' how
  -- the output took a front of it
  unprinted : TakesCut taken taken' text → how ≡ OutputFailed → TellingCame text taken taken' how

-- A text was asked for, and the tool ended with this number as its status, having told it.
pub record IsTold (asked : Option (List ℕ)) (taken taken' : Option (List ℕ))
    (Said : (line : List ℕ) → Type 0) (tool : List ℕ) (number : ℕ) : Type 0 where
  pub text : List ℕ
  pub is_asked : asked ≡ Some text
  pub ended : Ended (TellingCame text taken taken') Said tool number

-- What a tool comes to that ends without a run, where `silent` says that the output is as before.
pub data BeginningCame (help version : List ℕ) (silent : Type 0)
    (taken taken' : Option (List ℕ)) (how : Ending) : Type 0 where
  -- the system gave no words
  no_words : IsWithoutWords how → silent → BeginningCame help version silent taken taken' how
  -- they ask for a text that is to be told
  told : (words : List Text) → (text : List ℕ) → text_asked help version words ≡ Some text
      → TellingCame text taken taken' how → BeginningCame help version silent taken taken' how
