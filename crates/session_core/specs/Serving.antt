-- How a connection that was served ends.
use Rattle.std.specs.Prelude.{◌≡◌, ℕ, ◌≤◌, ◌⊎◌, Bool, true, false, List, [], length}
use Rattle.std.specs.declared.option.Option.{Option}
use Rattle.std.specs.declared.option.Option.TheVariants.{None, Some}
use Rattle.std.specs.Io.KnownBytes.{Appends, Consumes}
use Rattle.byte_io.specs.Counts.{Rose}
use Rattle.wire_msg.specs.Frame.{IsFramePrefix}
use Rattle.wire_msg.specs.FrameHead.{kind_number}
use Rattle.wire_msg.specs.Spelling.{frame_of, kind_of}
use Rattle.wire_msg.specs.declared.kind.Side.TheVariants.{Requests}
use Rattle.wire_msg.specs.declared.message.Message.{Message}
use Rattle.session_core.specs.Answering.{is_last}
use Rattle.session_core.specs.Connection.{Connection}
use Rattle.session_core.specs.Reading.{IsLessThanOne, IsNoRequest}
use Rattle.session_core.specs.Requests.{IsRequest}
use Rattle.session_core.specs.Service.{Made, Notes, Replies, Service, notes_of}
use Rattle.session_core.specs.SessionRan.{IsProperPrefix}
use Rattle.session_core.specs.Things.{CameToEnd}
use Rattle.session_core.specs.Unreplied.{IsRefusedByGate, IsUntimed, WantsMemory, no_notes}
use Rattle.session_core.specs.declared.served.ServeEnd.{ServeEnd}
use Rattle.session_core.specs.declared.served.ServeEnd.TheVariants as how
use Rattle.session_core.specs.declared.served.Served.{Served}

-- what is told of the answer
abbrev pub notes_told : Served → Notes
notes_told served = notes_of served.moment served.rule served.drawn

-- what was read of a connection, and what was written to it
pub record Exchange : Type 0 where
  pub read : List ℕ
  pub written : List ℕ

-- the bytes are this request's, and its kind is told
pub record IsHeard (read : List ℕ) (served : Served) (request : Message) : Type 0 where
  pub fits : IsRequest request
  pub read_is : read ≡ frame_of request
  pub kind_is : served.kind ≡ Some (kind_number (kind_of request))

-- a request was read and answered, and of the reply this was sent
pub record IsReplied (service : Service) (made : Option Made) (read : List ℕ) (served : Served)
    (Sent : Message → (reply : List ℕ) → Type 0) : Type 0 where
  pub request : Message
  pub heard : IsHeard read served request
  pub reply : List ℕ
  pub replies : Replies service made request (notes_told served) reply
  pub sent : Sent request reply

-- a request was read, of which this holds, and nothing was written
pub record IsUnreplied (exchange : Exchange) (served : Served) (Holds : Message → Notes → Type 0)
    : Type 0 where
  pub request : Message
  pub heard : IsHeard exchange.read served request
  pub holds : Holds request (notes_told served)
  pub none_written : exchange.written ≡ []

-- no request was read whole, and so nothing was done
pub record IsUnheard (made : Option Made) (exchange : Exchange) (served : Served) : Type 0 where
  pub none_made : made ≡ None
  pub none_written : exchange.written ≡ []
  pub no_kind : served.kind ≡ None
  pub notes_are : notes_told served ≡ no_notes

-- the whole reply was written, and the caller asked to stop, or not
abbrev pub IsWhole : Service → Exchange → (stops : Bool) → Message → (reply : List ℕ) → Type 0
IsWhole service exchange stops request reply =
    (exchange.written ≡ reply) × (is_last service.terms.who request ≡ stops)

-- What each end says, where `ended` says that the connection came to its end.
abbrev pub EndsAs : Service → (made : Option Made) → (ended : Type 0) → Exchange → Served
    → ServeEnd → Type 0
EndsAs service made ended exchange served how.Done =
    IsReplied service made exchange.read served (IsWhole service exchange false)
EndsAs service made ended exchange served how.Stopped =
    IsReplied service made exchange.read served (IsWhole service exchange true)
EndsAs service made ended exchange served how.WriteFault =
    IsReplied service made exchange.read served (λ request. IsProperPrefix exchange.written)
EndsAs service made ended exchange served how.Quiet =
    (exchange.read ≡ []) × ended × IsUnheard made exchange served
EndsAs service made ended exchange served how.ReadFault =
    IsLessThanOne exchange.read × IsUnheard made exchange served
EndsAs service made ended exchange served how.Malformed =
    IsNoRequest ended exchange.read × IsUnheard made exchange served
EndsAs service made ended exchange served how.ClockFault =
    IsUnreplied exchange served (IsUntimed made)
EndsAs service made ended exchange served how.NoMemory =
    (IsFramePrefix Requests exchange.read × IsUnheard made exchange served)
    ⊎ IsUnreplied exchange served (WantsMemory service made)
EndsAs service made ended exchange served (how.Worn ticket) =
    IsUnreplied exchange served (IsRefusedByGate service made)

-- a read found the end only where no request came or was cut off: the count of ends stands else
abbrev pub FindsEnd : ServeEnd → (before after : ℕ) → Type 0
FindsEnd how.Quiet before after = before ≤ after
FindsEnd how.Malformed before after = before ≤ after
FindsEnd how.Done before after = after ≡ before
FindsEnd how.Stopped before after = after ≡ before
FindsEnd how.ReadFault before after = after ≡ before
FindsEnd how.WriteFault before after = after ≡ before
FindsEnd how.ClockFault before after = after ≡ before
FindsEnd how.NoMemory before after = after ≡ before
FindsEnd (how.Worn ticket) before after = after ≡ before

-- the daemon was asked to stop where the call says so, and not else
abbrev pub Rings : ServeEnd → (before after : ℕ) → Type 0
Rings how.Stopped before after = Rose before after
Rings how.Done before after = after ≡ before
Rings how.Quiet before after = after ≡ before
Rings how.ReadFault before after = after ≡ before
Rings how.WriteFault before after = after ≡ before
Rings how.ClockFault before after = after ≡ before
Rings how.Malformed before after = after ≡ before
Rings how.NoMemory before after = after ≡ before
Rings (how.Worn ticket) before after = after ≡ before

-- A connection was served: what was read and written between these moments, and how that ended,
-- where this entry was made on the gate.
pub record IsServed (service : Service) (made : Option Made) (before after : Connection)
    (served : Served) : Type 0 where
  pub exchange : Exchange
  pub consumed : Consumes before.input.left after.input.left exchange.read
  pub counted : length exchange.read ≡ served.read
  pub found : FindsEnd served.how before.input.ends after.input.ends
  pub appended : Appends before.taken after.taken exchange.written
  pub ends : let ended = CameToEnd before.input after.input in
      EndsAs service made ended exchange served served.how
  pub rings : Rings served.how before.rings after.rings
