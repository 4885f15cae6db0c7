-- What a turn leaves behind, for each way that it can go.
use Rattle.std.proofs.Common.{◌≡◌, ℕ, ◌+◌, ◌<◌, ◌≤◌, ◌^◌, Bool, List, [], ◌∷◌, ◌++◌, length, take, drop, Option, Err, refl, sym, ap, subst, arith, inl, inr}
use Rattle.std.proofs.lemmas.List.{append-nil, length-append, length-drop, take-append-drop}
use Rattle.std.specs.Io.KnownBytes.{Consumes, Appends}
use Rattle.munge_types.specs.StandsFor.{Remembered, Stands}
use Rattle.munge_types.specs.declared.history.Event.{Event}
use Rattle.wire_msg.specs.Frame.{IsFramePrefix}
use Rattle.wire_msg.specs.Feeding.{place_after}
use Rattle.wire_msg.specs.FrameHead.{message_head}
use Rattle.wire_msg.specs.Spelling.{body_of, frame_of, kind_of}
use Rattle.wire_msg.specs.declared.kind.Side.TheVariants.{Requests}
use Rattle.wire_msg.specs.declared.message.Message.{Message}
use Rattle.session_core.specs.Answering.{Own, is_last}
use Rattle.session_core.specs.Reading.{FindsEnd, KeepsEnds, ReadsNone, how_of}
use Rattle.session_core.specs.Requests.{IsRequest}
use Rattle.session_core.specs.Session.{Session}
use Rattle.session_core.specs.SessionRan.{Beyond, IsProperPrefix, IsUntouched}
use Rattle.session_core.specs.Things.{Input, outside_of, things_of}
use Rattle.session_core.specs.Turn.{HasEnded, IsAnswered, IsTurned, LeavesUnanswered, Stage}
use Rattle.session_core.specs.declared.answer.Unanswered.TheVariants.{ClockFault as Unclocked, NoMemory as NoRoomToAnswer}
use Rattle.session_core.specs.declared.end.HowEnded.TheVariants.{ClockFault, WriteFault, NoMemory}
use Rattle.session_core.specs.declared.request.Unread.{Unread}
use Rattle.session_core.specs.declared.request.Unread.TheVariants.{Ended as EndedInput, Malformed, ReadFault, NoMemory as NoRoom}
use Rattle.session_core.proofs.StreamLemmas.{consumes_nothing, appends_nothing, kept_consumes}

-- the front of a whole that is longer leaves some rest
pub proper_prefix : (n : ℕ) (whole : List ℕ) → n < length whole → IsProperPrefix (take n whole) whole
proper_prefix n whole short =
    record {
      rest = drop n whole;
      whole_is = sym (take-append-drop n whole);
      some_rest = λ none. let left : length (drop n whole) ≡ 0 = ap length none in omega (arith, left, length-drop n whole);
    }

-- nothing happened but that these bytes were read
abbrev pub read_alone : List ℕ → List Event → Beyond
read_alone bytes own = record { read = bytes; written = []; readings = []; events = own }

pub read_alone_untouched : (bytes : List ℕ) (own : List Event) → IsUntouched own (read_alone bytes own)
read_alone_untouched bytes own = record { written_none = refl; readings_none = refl; events_same = refl }

-- no request came
pub ended_unread : (session : Session) (own : Own) (before after : Input) (taken readings : Option (List ℕ)) (state : Remembered) (begins : ℕ) (cause : Unread)
    → Stands state (session.base ++ own.events) → before.ends ≤ after.ends → ReadsNone cause before after
    → HasEnded session own (things_of (outside_of before taken readings) state) (things_of (outside_of after taken readings) state) begins (how_of cause begins)
ended_unread session own before after taken readings state begins EndedInput stands ends none =
    record {
      beyond = read_alone [] own.events;
      leaves = λ _. (refl, none.1, read_alone_untouched [] own.events);
      moves = record { reads = kept_consumes before.left after.left none.0; ends_stay = ends; writes = appends_nothing taken; takes = consumes_nothing readings; stands = stands };
    }
ended_unread session own before after taken readings state begins (Malformed count) stands ends none =
    record {
      beyond = read_alone none.bytes own.events;
      leaves = λ _. (refl, none.holds.1, read_alone_untouched none.bytes own.events);
      moves = record { reads = none.consumed; ends_stay = ends; writes = appends_nothing taken; takes = consumes_nothing readings; stands = stands };
    }
ended_unread session own before after taken readings state begins (ReadFault count) stands ends none =
    record {
      beyond = read_alone none.bytes own.events;
      leaves = λ _. (none.holds.1, read_alone_untouched none.bytes own.events);
      moves = record { reads = none.consumed; ends_stay = ends; writes = appends_nothing taken; takes = consumes_nothing readings; stands = stands };
    }
ended_unread session own before after taken readings state begins (NoRoom count) stands ends none =
    record {
      beyond = read_alone none.bytes own.events;
      leaves = λ _. (none.holds.1, inl (read_alone_untouched none.bytes own.events));
      moves = record { reads = none.consumed; ends_stay = ends; writes = appends_nothing taken; takes = consumes_nothing readings; stands = stands };
    }

-- a request came, and the clock gave no reading
pub ended_unclocked : (session : Session) (own : Own) (before after : Input) (taken readings readings' : Option (List ℕ)) (state state' : Remembered) (begins : ℕ) (request : Message)
    → IsRequest request → before.ends ≤ after.ends → Consumes before.left after.left (frame_of request)
    → LeavesUnanswered session own.events request readings readings' state' Unclocked
    → HasEnded session own (things_of (outside_of before taken readings) state) (things_of (outside_of after taken readings') state') begins ClockFault
ended_unclocked session own before after taken readings readings' state state' begins request fits ends read left =
    record {
      beyond = read_alone (frame_of request) own.events;
      leaves = λ _. record { request = request; whole = record { fits = fits; read_is = refl; timed = left.0 }; untouched = read_alone_untouched (frame_of request) own.events };
      moves = record { reads = read; ends_stay = ends; writes = appends_nothing taken; takes = kept_consumes readings readings' left.1.kept; stands = left.1.stands };
    }

-- a request came whole, and is a prefix of itself
whole_prefix : (request : Message) → IsRequest request → IsFramePrefix Requests (frame_of request)
whole_prefix request fits =
    record { rest = []; completed = record { message = request; is_message = fits; spelled = append-nil (frame_of request) } }

-- a request came, and there was no memory to answer it
pub ended_unanswered : (session : Session) (own : Own) (before after : Input) (taken readings readings' : Option (List ℕ)) (state state' : Remembered) (begins : ℕ) (request : Message)
    → IsRequest request → before.ends ≤ after.ends → Consumes before.left after.left (frame_of request)
    → LeavesUnanswered session own.events request readings readings' state' NoRoomToAnswer
    → HasEnded session own (things_of (outside_of before taken readings) state) (things_of (outside_of after taken readings') state') begins NoMemory
ended_unanswered session own before after taken readings readings' state state' begins request fits ends read (inl left) =
    record {
      beyond = read_alone (frame_of request) own.events;
      leaves = λ _. (whole_prefix request fits, inl (read_alone_untouched (frame_of request) own.events));
      moves = record { reads = read; ends_stay = ends; writes = appends_nothing taken; takes = kept_consumes readings readings' left.kept; stands = left.stands };
    }
ended_unanswered session own before after taken readings readings' state state' begins request fits ends read (inr begun) =
    record {
      beyond = record { read = frame_of request; written = []; readings = begun.moment ∷ []; events = _ };
      leaves = λ _. (
        whole_prefix request fits,
        inr (record { request = request; whole = record { fits = fits; read_is = refl; timed = begun.timed }; moment = begun.moment; readings_are = refl; written_none = refl; events_are = refl }),
      );
      moves = record { reads = read; ends_stay = ends; writes = appends_nothing taken; takes = begun.takes; stands = begun.stands };
    }

-- a request was answered, and not all of the reply went out
pub ended_cut : (session : Session) (own : Own) (before after : Input) (taken taken' readings readings' : Option (List ℕ)) (state state' : Remembered) (begins n : ℕ) (request : Message) (reply : List ℕ) (stage : Stage)
    → IsRequest request → before.ends ≤ after.ends → Consumes before.left after.left (frame_of request)
    → IsAnswered session own request reply readings readings' state' stage
    → Appends taken taken' (take n reply) → n < length reply
    → HasEnded session own (things_of (outside_of before taken readings) state) (things_of (outside_of after taken' readings') state') begins WriteFault
ended_cut session own before after taken taken' readings readings' state state' begins n request reply stage fits ends read answered wrote short =
    record {
      beyond = record { read = frame_of request; written = take n reply; readings = answered.outcome.readings; events = answered.outcome.own.events };
      leaves = λ _. record {
        request = request;
        fits = fits;
        read_is = refl;
        outcome = answered.outcome;
        answers = answered.answers;
        readings_are = refl;
        events_are = refl;
        written_is = subst (λ r. IsProperPrefix (take n reply) r) (sym answered.reply_is) (proper_prefix n reply short);
      };
      moves = record { reads = read; ends_stay = ends; writes = wrote; takes = answered.takes; stands = answered.stands };
    }

-- a request was answered, and the whole reply went out
pub turned_whole : (session : Session) (own : Own) (before after : Input) (taken taken' readings readings' : Option (List ℕ)) (state state' : Remembered) (begins begins' : ℕ) (over : Bool) (request : Message) (reply : List ℕ) (stage : Stage)
    → IsRequest request → before.ends ≤ after.ends → Consumes before.left after.left (frame_of request)
    → IsAnswered session own request reply readings readings' state' stage
    → Appends taken taken' reply → begins' ≡ begins + length (frame_of request) → over ≡ is_last session.terms.who request
    → IsTurned session own (things_of (outside_of before taken readings) state) (things_of (outside_of after taken' readings') state') begins begins' over stage
turned_whole session own before after taken taken' readings readings' state state' begins begins' over request reply stage fits ends read answered wrote begins_is over_is =
    record {
      request = request;
      fits = fits;
      outcome = answered.outcome;
      answers = answered.answers;
      moves = record { reads = read; ends_stay = ends; writes = subst (λ r. Appends taken taken' r) (sym answered.reply_is) wrote; takes = answered.takes; stands = answered.stands };
      begins_is = begins_is;
      over_is = over_is;
      is_at = answered.is_at;
    }

-- a frame has seven bytes and its body
pub frame_length : (request : Message) → length (frame_of request) ≡ 7 + length (body_of request)
frame_length request = length-append (message_head (kind_of request) (length (body_of request))) (body_of request)

-- far from the largest place the next frame begins right behind a request
pub begins_next : (begins begins' : ℕ) (request : Message) → IsRequest request → begins + 2097159 < 2 ^ 64
    → begins' ≡ place_after begins (length (frame_of request)) → begins' ≡ begins + length (frame_of request)
begins_next begins begins' request fits far is = omega (arith, is, frame_length request, fits.within)

-- what a read that brought no request found, said of how the session ends
pub found_unread : (cause : Unread) (begins before now : ℕ) → KeepsEnds {T = Message} (Err cause) before now → FindsEnd (how_of cause begins) before now
found_unread EndedInput begins before now kept = kept
found_unread (Malformed count) begins before now kept = kept
found_unread (ReadFault count) begins before now kept = kept
found_unread (NoRoom count) begins before now kept = kept
