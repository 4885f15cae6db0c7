-- How a tool ends: its status, and what it says of that.
use Rattle.std.specs.Prelude.{◌≡◌, ℕ, ◌≤◌, codes, List, [], Option, None, Some}
use Rattle.std.specs.Io.KnownBytes.{Appends}
use Rattle.byte_io.specs.Counts.{Rose}
use Rattle.munge_tools.specs.Line.{line_with}
use Rattle.munge_tools.specs.Status.{bad_reply, bad_words, failed_input, failed_output, too_long, unreached, want_of_memory}
use Rattle.munge_tools.specs.declared.ending.Ending.{Ending}
use Rattle.munge_tools.specs.declared.ending.Ending.TheVariants.{Done, Refused, TooLong, BadWords, Unreached, BadReply, InputFailed, OutputFailed, NoMemory}

-- the status of the process
abbrev pub status_of : Ending → ℕ
status_of (Done status) = status
status_of (Refused status) = status
status_of TooLong = too_long
status_of BadWords = bad_words
status_of Unreached = unreached
status_of BadReply = bad_reply
status_of InputFailed = failed_input
status_of OutputFailed = failed_output
status_of NoMemory = want_of_memory

-- what is said of it besides a number
abbrev pub reason_of : Ending → List ℕ
reason_of (Done status) = []
reason_of (Refused status) = codes "status "
reason_of TooLong = codes "too long"
reason_of BadWords = codes "bad words"
reason_of Unreached = codes "cannot reach the daemon"
reason_of BadReply = codes "bad reply"
reason_of InputFailed = codes "input failed"
reason_of OutputFailed = codes "output failed"
reason_of NoMemory = codes "no memory"

-- the line on standard error of the tool of this name, with its end; none where it is only done
abbrev pub line_of : (tool : List ℕ) → Ending → List ℕ
line_of tool (Done status) = []
line_of tool (Refused status) = line_with tool (reason_of (Refused status)) (Some status)
line_of tool TooLong = line_with tool (reason_of TooLong) None
line_of tool BadWords = line_with tool (reason_of BadWords) None
line_of tool Unreached = line_with tool (reason_of Unreached) None
line_of tool BadReply = line_with tool (reason_of BadReply) None
line_of tool InputFailed = line_with tool (reason_of InputFailed) None
line_of tool OutputFailed = line_with tool (reason_of OutputFailed) None
line_of tool NoMemory = line_with tool (reason_of NoMemory) None

-- a status that is that of a reply is one of the daemon's
abbrev pub IsOfReply : Ending → Type 0
IsOfReply (Done status) = status ≤ 18
IsOfReply (Refused status) = status ≤ 18
IsOfReply TooLong = Unit {0}
IsOfReply BadWords = Unit {0}
IsOfReply Unreached = Unit {0}
IsOfReply BadReply = Unit {0}
IsOfReply InputFailed = Unit {0}
IsOfReply OutputFailed = Unit {0}
IsOfReply NoMemory = Unit {0}

-- a tool may end so before it dials
abbrev pub IsBeforeDial : Ending → Type 0
IsBeforeDial TooLong = Unit {0}
IsBeforeDial InputFailed = Unit {0}
IsBeforeDial NoMemory = Unit {0}
IsBeforeDial (Done status) = ⊥
IsBeforeDial (Refused status) = ⊥
IsBeforeDial BadWords = ⊥
IsBeforeDial Unreached = ⊥
IsBeforeDial BadReply = ⊥
IsBeforeDial OutputFailed = ⊥

-- a tool may end so after a reply that fits
abbrev pub IsAfterReply : Ending → Type 0
IsAfterReply (Done status) = status ≤ 18
IsAfterReply (Refused status) = status ≤ 18
IsAfterReply OutputFailed = Unit {0}
IsAfterReply NoMemory = Unit {0}
IsAfterReply TooLong = ⊥
IsAfterReply InputFailed = ⊥
IsAfterReply BadWords = ⊥
IsAfterReply Unreached = ⊥
IsAfterReply BadReply = ⊥

-- a tool may end so where it has no words
abbrev pub IsWithoutWords : Ending → Type 0
IsWithoutWords BadWords = Unit {0}
IsWithoutWords NoMemory = Unit {0}
IsWithoutWords (Done status) = ⊥
IsWithoutWords (Refused status) = ⊥
IsWithoutWords TooLong = ⊥
IsWithoutWords Unreached = ⊥
IsWithoutWords BadReply = ⊥
IsWithoutWords InputFailed = ⊥
IsWithoutWords OutputFailed = ⊥

-- what contracts see of the error stream: the bytes that it took, where it tells them, and how many
-- writes failed
pub record Errors : Type 0 where
  pub taken : Option (List ℕ)
  pub faults : ℕ

abbrev pub errors_of : (taken : Option (List ℕ)) → (faults : ℕ) → Errors
errors_of taken faults = record { taken = taken; faults = faults }

-- the stream took this and nothing else, unless a write to it failed
abbrev pub Says : (before after : Errors) → (line : List ℕ) → Type 0
Says before after line = ¬ Rose before.faults after.faults → Appends before.taken after.taken line

-- The tool came to this, ended with this number as its status, and said so.
pub record Ended (CameTo : Ending → Type 0) (Said : (line : List ℕ) → Type 0)
    (tool : List ℕ) (number : ℕ) : Type 0 where
  pub how : Ending
  pub came_to : CameTo how
  pub number_is : number ≡ status_of how
  pub said : Said (line_of tool how)
