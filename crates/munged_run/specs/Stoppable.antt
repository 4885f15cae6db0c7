-- What a request to stop needs to come to an end of its own, and what it meets.
use Rattle.std.specs.Prelude.{◌≡◌, ℕ, List, [], ◌∷◌, ◌++◌, length, take}
use Rattle.std.specs.declared.option.Option.TheVariants.{None, Some}
use Rattle.byte_io.specs.Files.{file_of}
use Rattle.option_file.specs.Configuration.{configuration_of}
use Rattle.option_file.specs.Refusals.{first_refusal}
use Rattle.munged_run.specs.Program.{Given}
use Rattle.munged_run.specs.Stop.{control_path, stop_answer, stop_request}
use Rattle.munged_run.specs.StopWords.{stop_of}
use Rattle.munged_run.specs.Wire.{WireSeen}

-- the reply to the next dial: the first of those to come, or an empty one past the last
abbrev pub next_reply : List (List ℕ) → List ℕ
next_reply [] = []
next_reply (reply ∷ replies) = reply

-- these bytes begin with the answer that a daemon stops
abbrev pub BeginsWithAnswer : List ℕ → Type 0
BeginsWithAnswer reply = take (length stop_answer) reply ≡ stop_answer

-- the words ask by an option file that is not refused, one of its sockets has control, and the
-- reply to the next dial begins with the answer that the daemon stops
pub record CanStop (given : Given) (before : WireSeen) : Type 0 where
  pub config : List ℕ
  pub asked_for : stop_of given.words ≡ Some config
  pub files : List (List ℕ × List ℕ)
  pub files_told : given.files ≡ Some files
  pub text : List ℕ
  pub text_told : file_of files config ≡ Some text
  pub accepted : first_refusal text ≡ None
  pub path : List ℕ
  pub controls : control_path (configuration_of text).sockets ≡ Some path
  pub replies : List (List ℕ)
  pub replies_told : before.replies ≡ Some replies
  pub answers : BeginsWithAnswer (next_reply replies)

-- the request to stop went out whole, and the reply to it begins with another answer, or is shorter
pub record MeetsAnother (before after : WireSeen) : Type 0 where
  pub taken : List ℕ
  pub taken_told : before.taken ≡ Some taken
  pub sent : after.taken ≡ Some (taken ++ stop_request)
  pub replies : List (List ℕ)
  pub replies_told : before.replies ≡ Some replies
  pub another : ¬ BeginsWithAnswer (next_reply replies)
