-- What was read of a stream where no request came of it.
use Rattle.std.specs.Prelude.{◌≡◌, ◌≢◌, ℕ, ◌<◌, ◌≤◌, ◌⊎◌, List, [], length, Result, Ok, Err}
use Rattle.std.specs.Io.KnownBytes.{Consumes, Keeps}
use Rattle.byte_io.specs.Counts.{Rose}
use Rattle.wire_msg.specs.Frame.{BeginsFrame, IsFramePrefix}
use Rattle.wire_msg.specs.FrameHead.{head_size}
use Rattle.wire_msg.specs.declared.kind.Side.TheVariants.{Requests}
use Rattle.session_core.specs.Things.{CameToEnd, Input}
use Rattle.session_core.specs.declared.end.HowEnded.{HowEnded}
use Rattle.session_core.specs.declared.end.HowEnded.TheVariants as how
use Rattle.session_core.specs.declared.request.Unread.{Unread}
use Rattle.session_core.specs.declared.request.Unread.TheVariants.{Ended, Malformed, ReadFault, NoMemory}

-- the bytes are less than a whole request: fewer than a head, or a prefix of a request
pub record IsLessThanOne (bytes : List ℕ) : Type 0 where
  pub begins_none : ¬ BeginsFrame Requests bytes
  pub within : (length bytes < head_size) ⊎ IsFramePrefix Requests bytes

-- The bytes are no request, where `ended` says that the input came to its end.
pub data IsNoRequest (ended : Type 0) (bytes : List ℕ) : Type 0 where
  -- they are as many as a head has, and no request begins with them
  broken : length bytes ≡ head_size → ¬ IsFramePrefix Requests bytes → IsNoRequest ended bytes
  -- the input ended behind them: they are some, and less than a request
  cut : ended → bytes ≢ [] → IsLessThanOne bytes → IsNoRequest ended bytes

-- some bytes were read, of which this holds
pub record Reads (before after : Input) (P : List ℕ → Type 0) : Type 0 where
  pub bytes : List ℕ
  pub consumed : Consumes before.left after.left bytes
  pub holds : P bytes

-- there are so many bytes, of which this holds
abbrev pub Counted : (count : ℕ) → (List ℕ → Type 0) → List ℕ → Type 0
Counted count P bytes = (length bytes ≡ count) × P bytes

-- what was read where no request came, for each cause
abbrev pub ReadsNone : Unread → (before after : Input) → Type 0
ReadsNone Ended before after = Keeps before.left after.left × CameToEnd before after
ReadsNone (Malformed count) before after =
    Reads before after (Counted count (IsNoRequest (CameToEnd before after)))
ReadsNone (ReadFault count) before after = Reads before after (Counted count IsLessThanOne)
ReadsNone (NoMemory count) before after =
    Reads before after (Counted count (IsFramePrefix Requests))

-- the count of faults rose where a read failed, and stands where none did
abbrev pub CountsReadFault : {T : Type 0} → Result T Unread → (before now : ℕ) → Type 0
CountsReadFault (Ok request) before now = now ≡ before
CountsReadFault (Err Ended) before now = now ≡ before
CountsReadFault (Err (Malformed count)) before now = now ≡ before
CountsReadFault (Err (ReadFault count)) before now = Rose before now
CountsReadFault (Err (NoMemory count)) before now = now ≡ before

-- the input came to its end only where no request came or was cut off, and the count of ends stands
-- else
abbrev pub KeepsEnds : {T : Type 0} → Result T Unread → (before now : ℕ) → Type 0
KeepsEnds (Ok request) before now = now ≡ before
KeepsEnds (Err Ended) before now = before ≤ now
KeepsEnds (Err (Malformed count)) before now = before ≤ now
KeepsEnds (Err (ReadFault count)) before now = now ≡ before
KeepsEnds (Err (NoMemory count)) before now = now ≡ before

-- the same of a session: the input came to its end only where the session is done or malformed
abbrev pub FindsEnd : HowEnded → (before now : ℕ) → Type 0
FindsEnd how.Done before now = before ≤ now
FindsEnd (how.Malformed place) before now = before ≤ now
FindsEnd how.ReadFault before now = now ≡ before
FindsEnd how.WriteFault before now = now ≡ before
FindsEnd how.ClockFault before now = now ≡ before
FindsEnd how.Budget before now = now ≡ before
FindsEnd how.NoMemory before now = now ≡ before

-- how a session ends for each cause, where the request begins at this byte of the input
abbrev pub how_of : Unread → (begins : ℕ) → HowEnded
how_of Ended begins = how.Done
how_of (Malformed count) begins = how.Malformed begins
how_of (ReadFault count) begins = how.ReadFault
how_of (NoMemory count) begins = how.NoMemory
