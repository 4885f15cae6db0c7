-- What a request comes to on a gate, before anything is sent.
use Rattle.std.specs.Prelude.{◌≡◌, ℕ, ◌≤◌, true, false, Bool, List, length, Result, Ok, Err}
use Rattle.std.specs.declared.option.Option.{Option}
use Rattle.std.specs.declared.option.Option.TheVariants.{None, Some}
use Rattle.std.specs.Io.KnownBytes.{Appends, Keeps}
use Rattle.byte_io.specs.Counts.{Rose}
use Rattle.replay_gate.specs.Enters.{Enters}
use Rattle.replay_gate.specs.Makers.{maker}
use Rattle.replay_gate.specs.PassState.{PassState}
use Rattle.replay_gate.specs.Worn.{IsWorn}
use Rattle.wire_msg.specs.FrameHead.{kind_number}
use Rattle.wire_msg.specs.Spelling.{kind_of}
use Rattle.wire_msg.specs.declared.message.Message.{Message}
use Rattle.session_core.specs.Answering.{is_last}
use Rattle.session_core.specs.Service.{Made, Notes, Replies, Service, notes_of}
use Rattle.session_core.specs.SessionRan.{IsProperPrefix}
use Rattle.session_core.specs.Unreplied.{IsRefusedByGate, IsUntimed, WantsMemory}
use Rattle.session_core.specs.declared.reached.Reached.{Reached}
use Rattle.session_core.specs.declared.reached.Unreplied.{Unreplied}
use Rattle.session_core.specs.declared.reached.Unreplied.TheVariants as cause
use Rattle.session_core.specs.declared.served.ServeEnd.{ServeEnd}
use Rattle.session_core.specs.declared.served.ServeEnd.TheVariants as how
use Rattle.session_core.specs.declared.served.Served.{Served}

-- what is told of it
abbrev pub notes_reached : Reached → Notes
notes_reached reached = notes_of reached.moment reached.rule reached.drawn

-- the reply to a request where this entry was made, or why there is none
abbrev pub ComesTo : Service → (made : Option Made) → Message → Notes
    → Result (List ℕ) Unreplied → Type 0
ComesTo service made request notes (Ok reply) = Replies service made request notes reply
ComesTo service made request notes (Err cause.ClockFault) = IsUntimed made request notes
ComesTo service made request notes (Err cause.NoMemory) = WantsMemory service made request notes
ComesTo service made request notes (Err (cause.Worn ticket)) =
    IsRefusedByGate service made request notes

-- the request made one entry, at this place
pub record ReachesEntry (service : Service) (old new : PassState) (request : Message)
    (reached : Reached) (place : ℕ) : Type 0 where
  pub made : Made
  pub enters : Enters old new made.before made.entry
  pub place_is : place ≡ length made.before
  pub by : maker made.entry ≡ service.number
  pub comes : ComesTo service (Some made) request (notes_reached reached) reached.reply

-- what a request leaves of the pass that made no entry
abbrev pub KeepsPass : Result (List ℕ) Unreplied → (old new : PassState) → Type 0
KeepsPass (Ok reply) old new = new ≡ old
KeepsPass (Err cause.ClockFault) old new = new ≡ old
KeepsPass (Err cause.NoMemory) old new = new ≡ old
KeepsPass (Err (cause.Worn ticket)) old new = IsWorn old new ticket

-- it made none
pub record ReachesNoEntry (service : Service) (old new : PassState) (request : Message)
    (reached : Reached) : Type 0 where
  pub keeps : KeepsPass reached.reply old new
  pub comes : ComesTo service None request (notes_reached reached) reached.reply

-- what a request came to by a pass: an entry was made exactly where a place is told
abbrev pub Reaches : Service → (old new : PassState) → Message → Reached → (place : Option ℕ)
    → Type 0
Reaches service old new request reached (Some place) =
    ReachesEntry service old new request reached place
Reaches service old new request reached None = ReachesNoEntry service old new request reached

-- the count of a clock's faults rose where it gave no reading, and stands else
abbrev pub CountsClockFault : Result (List ℕ) Unreplied → (before now : ℕ) → Type 0
CountsClockFault (Ok reply) before now = now ≡ before
CountsClockFault (Err cause.ClockFault) before now = Rose before now
CountsClockFault (Err cause.NoMemory) before now = now ≡ before
CountsClockFault (Err (cause.Worn ticket)) before now = now ≡ before

-- what is told once a reply was sent, or not: so many bytes were read of the request
pub record Tells (request : Message) (read : ℕ) (reached : Reached) (served : Served)
    : Type 0 where
  pub kind_is : served.kind ≡ Some (kind_number (kind_of request))
  pub read_is : served.read ≡ read
  pub notes_are : notes_of served.moment served.rule served.drawn ≡ notes_reached reached
  pub place_is : served.place ≡ reached.place

-- what contracts see of a connection that a reply is sent to: the bytes that it took, and how often
-- it asked the daemon to stop
pub record Peer : Type 0 where
  pub taken : Option (List ℕ)
  pub rings : ℕ

abbrev pub peer_of : (taken : Option (List ℕ)) → (rings : ℕ) → Peer
peer_of taken rings = record { taken = taken; rings = rings }

-- a front of the reply was written
pub record IsCutShort (reply : List ℕ) (before after : Peer) : Type 0 where
  pub written : List ℕ
  pub appended : Appends before.taken after.taken written
  pub front : IsProperPrefix written reply
  pub quiet : after.rings ≡ before.rings

-- nothing was written
abbrev pub IsLeftAlone : (before after : Peer) → Type 0
IsLeftAlone before after = Keeps before.taken after.taken × (after.rings ≡ before.rings)

-- how a reply was sent to a request that stops the daemon, or does not
abbrev pub Sends : (reply : List ℕ) → (stops : Bool) → (before after : Peer) → ServeEnd → Type 0
Sends reply stops before after how.Done =
    Appends before.taken after.taken reply × (stops ≡ false) × (after.rings ≡ before.rings)
Sends reply stops before after how.Stopped =
    Appends before.taken after.taken reply × (stops ≡ true) × Rose before.rings after.rings
Sends reply stops before after how.WriteFault = IsCutShort reply before after
Sends reply stops before after how.Quiet = ⊥
Sends reply stops before after how.ReadFault = ⊥
Sends reply stops before after how.ClockFault = ⊥
Sends reply stops before after how.Malformed = ⊥
Sends reply stops before after how.NoMemory = ⊥
Sends reply stops before after (how.Worn ticket) = ⊥

-- what was sent of a reply; nothing, where there is none
abbrev pub SendsWhat : Result (List ℕ) Unreplied → (stops : Bool) → (before after : Peer)
    → ServeEnd → Type 0
SendsWhat (Ok reply) stops before after end = Sends reply stops before after end
SendsWhat (Err cause.ClockFault) stops before after end =
    (end ≡ how.ClockFault) × IsLeftAlone before after
SendsWhat (Err cause.NoMemory) stops before after end =
    (end ≡ how.NoMemory) × IsLeftAlone before after
SendsWhat (Err (cause.Worn ticket)) stops before after end =
    (end ≡ how.Worn ticket) × IsLeftAlone before after

-- the count of failed writes rose where one is told, and stands else
abbrev pub CountsWriteFault : ServeEnd → (before now : ℕ) → Type 0
CountsWriteFault how.WriteFault before now = Rose before now
CountsWriteFault how.Done before now = now ≡ before
CountsWriteFault how.Stopped before now = now ≡ before
CountsWriteFault how.Quiet before now = now ≡ before
CountsWriteFault how.ReadFault before now = now ≡ before
CountsWriteFault how.ClockFault before now = now ≡ before
CountsWriteFault how.Malformed before now = now ≡ before
CountsWriteFault how.NoMemory before now = now ≡ before
CountsWriteFault (how.Worn ticket) before now = now ≡ before
