-- What the command `stop` comes to.
use Rattle.std.specs.Prelude.{◌≡◌, ◌≢◌, ℕ, ◌<◌, Bool, true, false, find, List, [], length, option_map}
use Rattle.std.specs.declared.option.Option.{Option}
use Rattle.std.specs.declared.option.Option.TheVariants.{None, Some}
use Rattle.option_file.specs.Configuration.{Configuration}
use Rattle.option_file.specs.declared.sockets.SocketLine.{SocketLine}
use Rattle.session_core.specs.SessionRan.{IsProperPrefix}
use Rattle.wire_msg.specs.Spelling.{frame_of}
use Rattle.wire_msg.specs.declared.message.Message.TheVariants.{Bye, Stop}
use Rattle.munged_run.specs.Check.{GivesNoOptions, HoldsOptions}
use Rattle.munged_files.specs.Ending.{Ending}
use Rattle.munged_files.specs.Ending as ending
use Rattle.munged_run.specs.Wire.{Dialled, ReplyEnded, Undialled, WireSeen}
use Rattle.munged_run.specs.declared.stop_request.AskedToStop.{AskedToStop}
use Rattle.munged_run.specs.declared.stop_request.AskedToStop.TheVariants.{NoControl, NoMemory, Failed, Other, Stops}

-- the path of the first socket that has control, if one has it
abbrev pub control_path : List SocketLine → Option (List ℕ)
control_path lines = option_map (λ line. line.path) (find (λ line. line.who.control) lines)

-- the seven bytes that ask a daemon to stop
abbrev pub stop_request : List ℕ
stop_request = frame_of Stop

-- the eight bytes by which a daemon says that it stops: a Bye with status 0
abbrev pub stop_answer : List ℕ
stop_answer = frame_of (Bye 0)

-- how the program ends after a request to stop
abbrev pub after_asking : AskedToStop → Ending
after_asking NoControl = ending.no_control
after_asking NoMemory = ending.no_memory
after_asking Failed = ending.socket_failed
after_asking Other = ending.unanswered
after_asking Stops = ending.done

-- there was an answer, and it is another than that the daemon stops
abbrev pub is_other : AskedToStop → Bool
is_other NoControl = false
is_other NoMemory = false
is_other Failed = false
is_other Other = true
is_other Stops = false

-- What came of a request to stop over a socket of this path, for each end; `untouched` says that
-- the wire is as before.
pub data StopAsked (path : List ℕ) (untouched : Type 0) (before after : WireSeen)
    (how : AskedToStop) : Type 0 where
  -- no memory was left before the dial
  unmade : untouched → how ≡ NoMemory → StopAsked path untouched before after how
  -- the dial failed
  undialled : Undialled before after → how ≡ Failed
      → StopAsked path untouched before after how
  -- a write failed when less than the request had gone out
  cut : (front : List ℕ) → IsProperPrefix front stop_request
      → Dialled path before after front [] → how ≡ Failed
      → StopAsked path untouched before after how
  -- a read failed when less than an answer had come
  unread : (bytes : List ℕ) → length bytes < length stop_answer
      → Dialled path before after stop_request bytes → how ≡ Failed
      → StopAsked path untouched before after how
  -- the answer ended early
  short : (bytes : List ℕ) → length bytes < length stop_answer
      → Dialled path before after stop_request bytes → ReplyEnded before after
      → how ≡ Other → StopAsked path untouched before after how
  -- as many bytes came as the right answer has, and they are others
  other : (bytes : List ℕ) → length bytes ≡ length stop_answer → bytes ≢ stop_answer
      → Dialled path before after stop_request bytes → how ≡ Other
      → StopAsked path untouched before after how
  -- the daemon says that it stops
  stops : Dialled path before after stop_request stop_answer → how ≡ Stops
      → StopAsked path untouched before after how

-- What comes of the sockets of an option file.
pub data StoppedBy (lines : List SocketLine) (untouched : Type 0) (before after : WireSeen)
    (how : AskedToStop) : Type 0 where
  -- none has control
  no_control : untouched → control_path lines ≡ None → how ≡ NoControl
      → StoppedBy lines untouched before after how
  -- the first that has it was asked
  asked : (path : List ℕ) → control_path lines ≡ Some path
      → StopAsked path untouched before after how → StoppedBy lines untouched before after how

-- What `stop` comes to by the option file of that path.
pub data StopCame (files : Option (List (List ℕ × List ℕ))) (config : List ℕ)
    (untouched : Type 0) (before after : WireSeen) (how : Ending) : Type 0 where
  -- it gave no options
  no_options : untouched → GivesNoOptions files config how
      → StopCame files config untouched before after how
  -- it gave some
  by_options : (said : Configuration) → HoldsOptions files config said → (asked : AskedToStop)
      → StoppedBy said.sockets untouched before after asked → how ≡ after_asking asked
      → StopCame files config untouched before after how
