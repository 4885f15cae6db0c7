-- A connection that brings a whole request is answered, where nothing of it fails and the clock
-- gives a reading.
use Rattle.std.proofs.Common.{◌≡◌, ◌≢◌, ℕ, ◌+◌, ◌≤◌, Bool, List, [], ◌∷◌, ◌++◌, length, take, drop, Result, Ok, Err, refl, sym, ap, ◌∙◌, subst, arith}
use Rattle.std.proofs.Math.Seq.{take-append_seam}
use Rattle.std.proofs.lemmas.List.{append-nil, length-append, take-append-drop, take-append-le}
use Rattle.std.specs.Io.KnownBytes.{Consumes, IsAtEnd, Keeps}
use Rattle.std.specs.declared.option.Option.{Option}
use Rattle.std.specs.declared.option.Option.TheVariants.{None, Some}
use Rattle.byte_io.specs.Counts.{Rose}
use Rattle.wire_msg.specs.Frame.{IsFrame}
use Rattle.wire_msg.specs.FrameHead.{body_limit, head_size}
use Rattle.wire_msg.specs.Spelling.{body_of, frame_of}
use Rattle.wire_msg.specs.declared.kind.Side.TheVariants.{Requests}
use Rattle.wire_msg.specs.declared.message.Message.{Message}
use Rattle.session_core.proofs.RequestLemmas.{be32_injective, frame_size}
use Rattle.session_core.proofs.ServeLemmas.{unheard_of}
use Rattle.session_core.proofs.StreamLemmas.{kept_consumes}
use Rattle.session_core.specs.Connection.{Connection}
use Rattle.session_core.specs.Partial.{end_of}
use Rattle.session_core.specs.Reached.{CountsWriteFault, Peer, SendsWhat}
use Rattle.session_core.specs.Reading.{CountsReadFault, IsNoRequest, ReadsNone, broken, cut}
use Rattle.session_core.specs.Requests.{IsRequest}
use Rattle.session_core.specs.Things.{CameToEnd, Input}
use Rattle.session_core.specs.WholeRequest.{AnswersIfTimed, Brings, LinkHeld}
use Rattle.session_core.specs.Causes.{LinkFaults}
use Rattle.session_core.specs.declared.reached.Reached.{Reached}
use Rattle.session_core.specs.declared.reached.Unreplied.{Unreplied}
use Rattle.session_core.specs.declared.reached.Unreplied.TheVariants as cause
use Rattle.session_core.specs.declared.request.Heard.{Heard}
use Rattle.session_core.specs.declared.request.Unread.{Unread}
use Rattle.session_core.specs.declared.request.Unread.TheVariants.{Ended, Malformed, ReadFault, NoMemory}
use Rattle.session_core.specs.declared.served.ServeEnd.{ServeEnd}
use Rattle.session_core.specs.declared.served.ServeEnd.TheVariants as how
use Rattle.session_core.specs.declared.served.Served.{Served}

-- what was left of told bytes once some were read
record Parted (left' : Option (List ℕ)) (all bytes : List ℕ) : Type 0 where
  rest : List ℕ
  all_is : all ≡ bytes ++ rest
  left_is : left' ≡ Some rest

parted : (left left' : Option (List ℕ)) (all bytes : List ℕ) → left ≡ Some all → Consumes left left' bytes → Parted left' all bytes
parted left None all bytes told read = absurd (subst (λ l. Consumes l None bytes) told read)
parted left (Some rest) all bytes told read =
    record { rest = rest; all_is = subst (λ l. Consumes l (Some rest) bytes) told read; left_is = refl }

-- two requests in front of the same bytes have one length
same_size : (first second : Message) (rest rest' : List ℕ) → IsRequest first → IsRequest second
    → frame_of first ++ rest ≡ frame_of second ++ rest' → length (frame_of second) ≡ length (frame_of first)
same_size first second rest rest' fits fits' same =
    let within = fits.within in
    let within' = fits'.within in
    let sizes : length (body_of first) ≡ length (body_of second) =
    be32_injective (length (body_of first)) (length (body_of second)) (omega (arith, within)) (omega (arith, within')) (ap (λ l. take 4 (drop 3 l)) same) in
    omega (arith, frame_size first, frame_size second, sizes)

-- no front of a request is no request
front_of_whole : (request : Message) (rest bytes more : List ℕ) (ended : Type 0) → IsRequest request → frame_of request ++ rest ≡ bytes ++ more
    → (ended → more ≡ []) → IsNoRequest ended bytes → ⊥
front_of_whole request rest bytes more ended fits same end (broken seven no_prefix) =
    let frame = frame_of request in
    let enough : head_size ≤ length frame = omega (arith, frame_size request) in
    let front : bytes ≡ take head_size frame =
    sym (ap (λ n. take n (bytes ++ more)) (sym seven) ∙ take-append_seam bytes more)
    ∙ ap (take head_size) (sym same) ∙ take-append-le head_size frame rest enough in
    no_prefix (record {
      rest = drop head_size frame;
      completed = record {
        message = request;
        is_message = fits;
        spelled = ap (λ l. l ++ drop head_size frame) front ∙ take-append-drop head_size frame;
      };
    })
front_of_whole request rest bytes more ended fits same end (cut came some less) =
    let all : bytes ≡ frame_of request ++ rest =
    sym (append-nil bytes) ∙ ap (λ l. bytes ++ l) (sym (end came)) ∙ sym same in
    less.begins_none (record {
      frame = frame_of request;
      rest = rest;
      is_frame = record { message = request; is_message = fits; spelled = refl };
      begins = all;
    })

-- how a call may end that read a request, where no write failed
ended_whole : (reply : Result (List ℕ) Unreplied) (served : Served) (end : ServeEnd) (stops : Bool) (peer peer' : Peer) (faults faults' : LinkFaults) (size : ℕ)
    → LinkHeld faults faults' → served.read ≡ size → SendsWhat reply stops peer peer' end
    → CountsWriteFault end faults.writes faults'.writes → AnswersIfTimed size served end
ended_whole (Ok reply) served how.Done stops peer peer' faults faults' size held same sends writes = same
ended_whole (Ok reply) served how.Stopped stops peer peer' faults faults' size held same sends writes = same
ended_whole (Ok reply) served how.WriteFault stops peer peer' faults faults' size held same sends writes = held.writes writes
ended_whole (Ok reply) served how.Quiet stops peer peer' faults faults' size held same sends writes = sends
ended_whole (Ok reply) served how.ReadFault stops peer peer' faults faults' size held same sends writes = sends
ended_whole (Ok reply) served how.ClockFault stops peer peer' faults faults' size held same sends writes = same
ended_whole (Ok reply) served how.Malformed stops peer peer' faults faults' size held same sends writes = sends
ended_whole (Ok reply) served how.NoMemory stops peer peer' faults faults' size held same sends writes = tt
ended_whole (Ok reply) served (how.Worn ticket) stops peer peer' faults faults' size held same sends writes = tt
ended_whole (Err cause.ClockFault) served end stops peer peer' faults faults' size held same sends writes =
    subst (AnswersIfTimed size served) (sym sends.0) same
ended_whole (Err cause.NoMemory) served end stops peer peer' faults faults' size held same sends writes =
    subst (AnswersIfTimed size served) (sym sends.0) tt
ended_whole (Err (cause.Worn ticket)) served end stops peer peer' faults faults' size held same sends writes =
    subst (AnswersIfTimed size served) (sym sends.0) tt

pub complete_heard : (request heard : Message) (before : Connection) (left' : Option (List ℕ)) (faults faults' : LinkFaults) (reached : Reached) (served : Served)
    (stops : Bool) (peer peer' : Peer)
    → Brings before request → LinkHeld faults faults' → IsRequest heard → Consumes before.input.left left' (frame_of heard)
    → served.read ≡ length (frame_of heard) → SendsWhat reached.reply stops peer peer' served.how
    → CountsWriteFault served.how faults.writes faults'.writes
    → AnswersIfTimed (length (frame_of request)) served served.how
complete_heard request heard before left' faults faults' reached served stops peer peer' brings held fits read size sends writes =
    let after = parted before.input.left left' (frame_of request ++ brings.rest) (frame_of heard) brings.left_is read in
    let same : served.read ≡ length (frame_of request) = size ∙ same_size request heard brings.rest after.rest brings.fits fits after.all_is in
    ended_whole reached.reply served served.how stops peer peer' faults faults' (length (frame_of request)) held same sends writes

-- nothing was left where an input came to its end
none_behind : (before after : Input) (rest : List ℕ) → after.left ≡ Some rest → CameToEnd before after → rest ≡ []
none_behind before after rest told ended = subst (λ l. IsAtEnd l) told ended.nothing_left

no_request_brought : (request : Message) (rest bytes : List ℕ) (before after : Input) → IsRequest request → before.left ≡ Some (frame_of request ++ rest)
    → Consumes before.left after.left bytes → IsNoRequest (CameToEnd before after) bytes → ⊥
no_request_brought request rest bytes before after fits told read none =
    let left = parted before.left after.left (frame_of request ++ rest) bytes told read in
    front_of_whole request rest bytes left.rest (CameToEnd before after) fits left.all_is (none_behind before after left.rest left.left_is) none

-- the input ended before a request that it brings
end_brought : (request : Message) (rest : List ℕ) (before after : Input) → before.left ≡ Some (frame_of request ++ rest)
    → Keeps before.left after.left → CameToEnd before after → ⊥
end_brought request rest before after told kept ended =
    let left = parted before.left after.left (frame_of request ++ rest) [] told (kept_consumes before.left after.left kept) in
    let none = none_behind before after left.rest left.left_is ended in
    let empty = ap length (left.all_is ∙ none) in
    omega (arith, empty, length-append (frame_of request) rest, frame_size request)

pub complete_unheard : (request : Message) (before : Connection) (after : Input) (unread : Unread) (faults faults' : LinkFaults)
    → Brings before request → LinkHeld faults faults' → ReadsNone unread before.input after
    → CountsReadFault {T = Heard} (Err unread) faults.reads faults'.reads
    → AnswersIfTimed (length (frame_of request)) (unheard_of unread) (end_of unread)
complete_unheard request before after Ended faults faults' brings held none counts =
    absurd (end_brought request brings.rest before.input after brings.left_is none.0 none.1)
complete_unheard request before after (Malformed count) faults faults' brings held none counts =
    absurd (no_request_brought request brings.rest none.bytes before.input after brings.fits brings.left_is none.consumed none.holds.1)
complete_unheard request before after (ReadFault count) faults faults' brings held none counts = absurd (held.reads counts)
complete_unheard request before after (NoMemory count) faults faults' brings held none counts = tt
