-- A run of the program that nothing outside can excuse.
use Rattle.std.specs.Prelude.{◌≡◌, ℕ, ◌≤◌, List, [], length}
use Rattle.std.specs.declared.option.Option.{Option}
use Rattle.std.specs.declared.option.Option.TheVariants.{Some}
use Rattle.std.specs.Io.KnownBytes.{Consumes, Appends}
use Rattle.std.specs.List.{AllByRecursion}
use Rattle.byte_io.specs.Files.{file_of}
use Rattle.wire_msg.specs.declared.message.Message.{Message}
use Rattle.session_core.specs.Answering.{Outcome, Run, nothing_done}
use Rattle.session_core.specs.Requests.{IsRequest, frames}
use Rattle.session_core.specs.SessionRan.{request_limit}
use Rattle.session_core.specs.Things.{Outside}
use Rattle.load_maker.specs.Load.{IsUsual}
use Rattle.munged_run.specs.CommandLine.{AskedSession, command_of}
use Rattle.munged_run.specs.CommandLine as command
use Rattle.munged_files.specs.KeyFile.{IsKey}
use Rattle.munge_types.specs.declared.settings.Settings.{Settings}
use Rattle.munged_run.specs.Program.{Given, session_under}
use Rattle.munged_files.specs.SeedFile.{TellsSeed}

-- The files of a session hold a key, and a seed if one is named for it, and what is left of the
-- input is whole requests, no more of them than one session answers.
pub record WholeSession (files : Option (List (List ℕ × List ℕ))) (asked : AskedSession)
    (left : Option (List ℕ)) : Type 0 where
  pub told : List (List ℕ × List ℕ)
  pub files_told : files ≡ Some told
  pub key : List ℕ
  pub key_told : file_of told asked.key_file ≡ Some key
  pub fits : IsKey key
  pub seed : Option (List ℕ)
  pub seed_told : TellsSeed told asked.seed_file seed
  pub requests : List Message
  pub within : AllByRecursion IsRequest requests
  pub few : length requests ≤ request_limit
  pub left_told : left ≡ Some (frames requests)

-- the words ask for such a session
pub record WholeRequests (given : Given) (left : Option (List ℕ)) : Type 0 where
  pub asked : AskedSession
  pub asked_for : command_of given.words ≡ Some (command.session asked)
  pub whole : WholeSession given.files asked left

-- All of the input was read, and what was written is the replies to all requests, at the clock's
-- next readings.
pub record AnswersAll (asked : AskedSession) (key : List ℕ) (seed : Option (List ℕ))
    (requests : List Message) (before after : Outside) : Type 0 where
  pub settings : Settings
  pub usual : IsUsual settings
  pub outcome : Outcome
  pub run : Run (session_under asked key settings seed) nothing_done requests outcome
  pub none_left : after.input.left ≡ Some []
  pub written : Appends before.taken after.taken outcome.replies
  pub taken : Consumes before.readings after.readings outcome.readings

-- all requests of such a session were answered
abbrev pub AnswersWhole : (given : Given) (before after : Outside)
    → WholeRequests given before.input.left → Type 0
AnswersWhole given before after whole =
    AnswersAll whole.asked whole.whole.key whole.whole.seed whole.whole.requests before after
