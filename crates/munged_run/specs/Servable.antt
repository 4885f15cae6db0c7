-- What a daemon needs to serve.
use Rattle.std.specs.Prelude.{◌≡◌, ℕ, ◌≤◌, Bool, List, length}
use Rattle.std.specs.declared.option.Option.{Option}
use Rattle.std.specs.declared.option.Option.TheVariants.{None, Some}
use Rattle.byte_io.specs.Files.{file_of}
use Rattle.group_map.specs.FirstBadLine.{first_bad}
use Rattle.group_map.specs.GroupLine.{is_group_line}
use Rattle.group_map.specs.PasswdLine.{is_passwd_line}
use Rattle.option_file.specs.Configuration.{Configuration, configuration_of}
use Rattle.option_file.specs.Refusals.{first_refusal}
use Rattle.replay_gate.specs.Worn.{worn_at}
use Rattle.munged_files.specs.KeyFile.{IsKey}
use Rattle.munged_files.specs.MapFile.{map_limit}
use Rattle.munged_run.specs.Program.{Given}
use Rattle.munged_files.specs.SeedFile.{seeds_size}
use Rattle.munged_run.specs.ServeWords.{serve_of}

-- a file of that name is told, of which this holds
pub record Tells (told : List (List ℕ × List ℕ)) (name : List ℕ) (P : List ℕ → Type 0)
    : Type 0 where
  pub bytes : List ℕ
  pub bytes_told : file_of told name ≡ Some bytes
  pub holds : P bytes

-- a passwd or group file of which each line is right, and that is not too long
pub record IsRightMap (is_right : List ℕ → Bool) (bytes : List ℕ) : Type 0 where
  pub within : length bytes ≤ map_limit
  pub right : first_bad is_right bytes ≡ None

-- if a file is named, it is one
abbrev pub TellsMap : (is_right : List ℕ → Bool) → (told : List (List ℕ × List ℕ))
    → (named : Option (List ℕ)) → Type 0
TellsMap is_right told None = Unit {0}
TellsMap is_right told (Some name) = Tells told name (IsRightMap is_right)

-- the files that the options name are right
pub record TellsFiles (told : List (List ℕ × List ℕ)) (said : Configuration) : Type 0 where
  pub key : Tells told said.key IsKey
  pub seeds : Tells told said.seed (λ bytes. seeds_size said.workers ≤ length bytes)
  pub passwd : TellsMap is_passwd_line told said.passwd
  pub group : TellsMap is_group_line told said.group

-- the words ask that a daemon serves by an option file that is not refused, and the files that it
-- names are right
pub record CanServe (given : Given) : Type 0 where
  pub config : List ℕ
  pub asked_for : serve_of given.words ≡ Some config
  pub files : List (List ℕ × List ℕ)
  pub files_told : given.files ≡ Some files
  pub text : List ℕ
  pub text_told : file_of files config ≡ Some text
  pub accepted : first_refusal text ≡ None
  pub right : TellsFiles files (configuration_of text)

-- a call read this ticket word and found the gate worn, whose closing history has so many entries
abbrev pub IsWornTicket : (worn : Option ℕ) → (entries : ℕ) → Type 0
IsWornTicket None entries = ⊥
IsWornTicket (Some ticket) entries = (worn_at ≤ ticket) × (ticket ≤ entries)
