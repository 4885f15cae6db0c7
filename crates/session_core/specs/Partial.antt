-- A request of which a part came.
use Rattle.std.specs.Prelude.{◌≡◌, ℕ, ◌+◌, ◌<◌, ◌≤◌, List, [], ◌++◌, length}
use Rattle.munge_types.specs.Bytes.{IsBytes}
use Rattle.wire_msg.specs.Feeding.{Feeding, place_after}
use Rattle.wire_msg.specs.Frame.{IsFrame, IsFramePrefix, IsUnfinished}
use Rattle.wire_msg.specs.FrameHead.{head_size}
use Rattle.wire_msg.specs.Spelling.{frame_of}
use Rattle.wire_msg.specs.declared.kind.Side.TheVariants.{Requests}
use Rattle.session_core.specs.Reading.{Counted, Reads}
use Rattle.session_core.specs.Requests.{IsRequest}
use Rattle.session_core.specs.Things.{CameToEnd, Input}
use Rattle.session_core.specs.declared.request.Progress.{Progress}
use Rattle.session_core.specs.declared.request.Progress.TheVariants.{Whole, Partial}
use Rattle.session_core.specs.declared.served.ServeEnd.{ServeEnd}
use Rattle.session_core.specs.declared.served.ServeEnd.TheVariants as how
use Rattle.session_core.specs.declared.request.Unread.{Unread}
use Rattle.session_core.specs.declared.request.Unread.TheVariants.{Ended, Malformed, ReadFault, NoMemory}

-- these bytes are a request's that is not whole: any n bytes more make one, and no fewer do
pub record Wants (bytes : List ℕ) (n : ℕ) : Type 0 where
  pub enough : (piece : List ℕ) → IsBytes piece → length piece ≡ n
      → IsFrame Requests (bytes ++ piece)
  pub least : (piece : List ℕ) → IsFrame Requests (bytes ++ piece) → n ≤ length piece
  pub some : 1 ≤ n

-- how far a request came by these bytes
abbrev pub Comes : (bytes : List ℕ) → Progress → Type 0
Comes bytes (Whole request) = IsRequest request × (bytes ≡ frame_of request)
Comes bytes (Partial wanted) = Wants bytes wanted

-- what a feeder keeps then of a request that began at this place
abbrev pub KeepsOf : (begins : ℕ) (bytes : List ℕ) → Progress → (kept : Feeding) → Type 0
KeepsOf begins bytes (Whole request) kept =
    (kept.unfinished ≡ []) × (kept.begins ≡ place_after begins (length (frame_of request)))
KeepsOf begins bytes (Partial wanted) kept = (kept.unfinished ≡ bytes) × (kept.begins ≡ begins)

-- so it is with some bytes that were read behind those that the feeder kept before
abbrev pub ReadsOn : (kept : Feeding) (before after : Input) → Progress → (kept' : Feeding) → Type 0
ReadsOn kept before after progress kept' =
    Reads before after (λ bytes.
    Comes (kept.unfinished ++ bytes) progress
    × KeepsOf kept.begins (kept.unfinished ++ bytes) progress kept')

-- a request that is not whole has a head
abbrev pub KeepsHead : Progress → (kept : List ℕ) → Type 0
KeepsHead (Whole request) kept = Unit {0}
KeepsHead (Partial wanted) kept = length kept ≡ head_size

-- what was wanted and came is kept
abbrev pub Grows : (wanted : ℕ) (bytes : List ℕ) → Progress → (bytes' : List ℕ) → Type 0
Grows wanted bytes (Whole request) bytes' = Unit {0}
Grows wanted bytes (Partial wanted') bytes' = length bytes' + wanted' ≡ length bytes + wanted

-- how many bytes of a request were read that did not come
abbrev pub count_of : Unread → ℕ
count_of Ended = 0
count_of (Malformed count) = count
count_of (ReadFault count) = count
count_of (NoMemory count) = count

-- the same, where so many bytes were read before these
abbrev pub behind : (earlier : ℕ) → Unread → Unread
behind earlier Ended = Ended
behind earlier (Malformed count) = Malformed (earlier + count)
behind earlier (ReadFault count) = ReadFault (earlier + count)
behind earlier (NoMemory count) = NoMemory (earlier + count)

-- how a connection ends that brought no request, for each cause
abbrev pub end_of : Unread → ServeEnd
end_of Ended = how.Quiet
end_of (Malformed count) = how.Malformed
end_of (ReadFault count) = how.ReadFault
end_of (NoMemory count) = how.NoMemory

-- fewer bytes are wanted than before, if any
abbrev pub IsNearer : (wanted : ℕ) → Progress → Type 0
IsNearer wanted (Whole request) = Unit {0}
IsNearer wanted (Partial wanted') = wanted' < wanted

-- why the bytes of a head make no request
abbrev pub HeadRefused : Unread → (head : List ℕ) → Type 0
HeadRefused Ended head = ⊥
HeadRefused (Malformed count) head =
    (count ≡ head_size) × ¬ IsFramePrefix Requests head
HeadRefused (ReadFault count) head = ⊥
HeadRefused (NoMemory count) head = (count ≡ head_size) × IsFramePrefix Requests head

-- what was read behind these bytes of a request where no more of it came, for each cause
abbrev pub Stops : Unread → (bytes : List ℕ) (before after : Input) → Type 0
Stops Ended bytes before after = ⊥
Stops (Malformed count) bytes before after =
    Reads before after (Counted count (λ more. IsUnfinished Requests (bytes ++ more)))
    × CameToEnd before after
Stops (ReadFault count) bytes before after =
    Reads before after (Counted count (λ more. IsUnfinished Requests (bytes ++ more)))
Stops (NoMemory count) bytes before after =
    Reads before after (Counted count (λ more. IsFramePrefix Requests (bytes ++ more)))
