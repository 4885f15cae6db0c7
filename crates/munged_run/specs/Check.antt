-- What the command `check` comes to.
use Rattle.std.specs.Prelude.{◌≡◌, ℕ, List, None, Some, Option, codes}
use Rattle.std.specs.Io.KnownBytes.{Appends}
use Rattle.byte_io.specs.Files.{ReadsFile}
use Rattle.option_file.specs.Configuration.{Configuration, configuration_of}
use Rattle.option_file.specs.Refusals.{first_refusal}
use Rattle.option_file.specs.declared.refused.OptionRefused.{OptionRefused}
use Rattle.session_core.specs.SessionRan.{IsProperPrefix}
use Rattle.munged_files.specs.Ending.{Ending}
use Rattle.munged_files.specs.Ending as ending
use Rattle.munged_files.specs.KeyFile.{GivesNoKey, HoldsKey}
use Rattle.munged_files.specs.MapFile.{GivesNoMap, HoldMaps}
use Rattle.munged_files.specs.Unread.{IsUnread}

-- the most bytes that are read of an option file, one more than it may have
abbrev pub options_room : ℕ
options_room = 65537

-- the file of that name holds these options
pub record HoldsOptions (files : Option (List (List ℕ × List ℕ))) (name : List ℕ)
    (said : Configuration) : Type 0 where
  pub bytes : List ℕ
  pub read : ReadsFile files name options_room bytes
  pub accepted : first_refusal bytes ≡ None
  pub said_is : said ≡ configuration_of bytes

-- the file of that name gave no options, and the program ends so
pub data GivesNoOptions (files : Option (List (List ℕ × List ℕ))) (name : List ℕ) (how : Ending)
    : Type 0 where
  unread : IsUnread name how → GivesNoOptions files name how
  refused : (bytes : List ℕ) → ReadsFile files name options_room bytes
      → (why : OptionRefused) → first_refusal bytes ≡ Some why → how ≡ ending.options why
      → GivesNoOptions files name how
  no_memory : how ≡ ending.no_memory → GivesNoOptions files name how

-- a file that the options name is refused, and the program ends so; the key file comes first
pub data RefusesFiles (files : Option (List (List ℕ × List ℕ))) (said : Configuration)
    (how : Ending) : Type 0 where
  bad_key : GivesNoKey files said.key how → RefusesFiles files said how
  bad_map : (key : List ℕ) → HoldsKey files said.key key
      → GivesNoMap files said.passwd said.group how → RefusesFiles files said how

-- none is
pub record AcceptsFiles (files : Option (List (List ℕ × List ℕ))) (said : Configuration)
    : Type 0 where
  pub key : List ℕ
  pub key_read : HoldsKey files said.key key
  pub maps : HoldMaps files said.passwd said.group

-- what is printed where no refusal stands
abbrev pub accepted_text : List ℕ
accepted_text = codes "ok\n"

-- What comes of the files that the options name, where `silent` says that the output is as before.
pub data FilesChecked (files : Option (List (List ℕ × List ℕ))) (said : Configuration)
    (silent : Type 0) (taken taken' : Option (List ℕ)) (how : Ending) : Type 0 where
  -- one is refused
  refused_file : silent → RefusesFiles files said how
      → FilesChecked files said silent taken taken' how
  -- none is, and that was printed
  printed : AcceptsFiles files said → Appends taken taken' accepted_text → how ≡ ending.done
      → FilesChecked files said silent taken taken' how
  -- none is, and the output took a front of what was to be printed
  unprinted : AcceptsFiles files said → (front : List ℕ) → IsProperPrefix front accepted_text
      → Appends taken taken' front → how ≡ ending.output_failed
      → FilesChecked files said silent taken taken' how

-- what `check` comes to
pub data CheckCame (files : Option (List (List ℕ × List ℕ))) (config : List ℕ) (silent : Type 0)
    (taken taken' : Option (List ℕ)) (how : Ending) : Type 0 where
  no_options : silent → GivesNoOptions files config how
      → CheckCame files config silent taken taken' how
  checked : (said : Configuration) → HoldsOptions files config said
      → FilesChecked files said silent taken taken' how
      → CheckCame files config silent taken taken' how
