-- What a run of the program comes to.
use Rattle.std.specs.Prelude.{◌≡◌, ℕ, List, []}
use Rattle.std.specs.declared.option.Option.{Option}
use Rattle.std.specs.declared.option.Option.TheVariants.{None, Some}
use Rattle.munge_types.specs.StandsFor.{Remembered}
use Rattle.munge_types.specs.declared.settings.Settings.{Settings}
use Rattle.load_maker.specs.Load.{IsUsual}
use Rattle.session_core.specs.Session.{Session}
use Rattle.session_core.specs.SessionRan.{SessionRan}
use Rattle.session_core.specs.Things.{Outside, things_of}
use Rattle.session_core.specs.declared.end.SessionEnd.{SessionEnd}
use Rattle.munged_run.specs.Check.{CheckCame}
use Rattle.munged_run.specs.CommandLine.{AskedSession, caller_of, command_of}
use Rattle.munged_run.specs.CommandLine as command
use Rattle.munged_files.specs.Ending.{Ending}
use Rattle.munged_run.specs.AfterSession.{after_session}
use Rattle.munged_files.specs.Ending as ending
use Rattle.munged_files.specs.KeyFile.{GivesNoKey, HoldsKey}
use Rattle.munged_files.specs.SeedFile.{GivesNoSeed, IsSeedOf}

-- the session that was asked for, under this key, with these settings and this seed, without
-- groups, from the empty history on
abbrev pub session_under : AskedSession → (key : List ℕ) → Settings → (seed : Option (List ℕ))
    → Session
session_under asked key settings seed =
    record {
      terms = record {
        files = record { key = key; passwd = []; group = [] };
        settings = settings;
        who = caller_of asked;
      };
      seed = seed;
      base = [];
    }

-- what a new replay state remembers
abbrev pub nothing_remembered : Remembered
nothing_remembered = record { floor = 0; pairs = [] }

-- what the program is given: its words, and its files where they are told
pub record Given : Type 0 where
  pub words : List (List ℕ)
  pub files : Option (List (List ℕ × List ℕ))

abbrev pub given_of : (words : List (List ℕ)) → (files : Option (List (List ℕ × List ℕ))) → Given
given_of words files = record { words = words; files = files }

-- the session that was asked for ran, under the key that was read and with the seed that was read
-- if a file is named for it
pub record Answered (files : Option (List (List ℕ × List ℕ))) (asked : AskedSession)
    (before after : Outside) (how : Ending) : Type 0 where
  pub key : List ℕ
  pub holds : HoldsKey files asked.key_file key
  pub seed : Option (List ℕ)
  pub seeded : IsSeedOf files asked.seed_file seed
  pub settings : Settings
  pub usual : IsUsual settings
  pub end : SessionEnd
  pub replay : Remembered
  pub ran : SessionRan (session_under asked key settings seed) end
      (things_of before nothing_remembered) (things_of after replay)
  pub how_is : how ≡ after_session end.how

-- What the session that was asked for comes to, where `untouched` says that streams and clock are
-- as before.
pub data SessionCame (files : Option (List (List ℕ × List ℕ))) (asked : AskedSession)
    (untouched : Type 0) (before after : Outside) (how : Ending) : Type 0 where
  -- there was no key
  unkeyed : untouched → GivesNoKey files asked.key_file how
      → SessionCame files asked untouched before after how
  -- there was a key, and no seed
  unseeded : untouched → (key : List ℕ) → HoldsKey files asked.key_file key
      → GivesNoSeed files asked.seed_file how → SessionCame files asked untouched before after how
  -- it ran
  answered : Answered files asked before after how
      → SessionCame files asked untouched before after how

-- what of the outside is as it was: the input and the clock, and the output
pub record Same : Type 1 where
  pub idle : Type 0
  pub silent : Type 0

abbrev pub same_of : (idle silent : Type 0) → Same
same_of idle silent = record { idle = idle; silent = silent }

-- What the program comes to.
pub data ComesTo (given : Given) (same : Same) (before after : Outside) (how : Ending)
    : Type 0 where
  -- the words ask for nothing
  no_command : command_of given.words ≡ None → same.idle → same.silent → how ≡ ending.no_command
      → ComesTo given same before after how
  -- they ask for a session
  session : (asked : AskedSession) → command_of given.words ≡ Some (command.session asked)
      → SessionCame given.files asked (same.idle × same.silent) before after how
      → ComesTo given same before after how
  -- they ask for a look at an option file
  check : (config : List ℕ) → command_of given.words ≡ Some (command.check config) → same.idle
      → CheckCame given.files config same.silent before.taken after.taken how
      → ComesTo given same before after how
