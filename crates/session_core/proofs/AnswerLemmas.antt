-- What an answer to a request of each kind leaves of a session.
use Rattle.std.proofs.Common.{◌≡◌, ℕ, ◌+◌, true, List, [], ◌∷◌, ◌++◌, Option, Some, refl, sym, ap, ◌∙◌, subst, inr, length, take, drop, arith}
use Rattle.std.proofs.lemmas.List.{length-drop, take-append-drop}
use Rattle.std.specs.Io.KnownBytes.{Consumes, Keeps}
use Rattle.munge_types.specs.StandsFor.{Remembered, Stands}
use Rattle.munge_types.specs.Status.{status_number}
use Rattle.munge_types.specs.declared.history.Event.{Event}
use Rattle.cred_seal.specs.Asked.{Asked}
use Rattle.cred_seal.specs.Dice.{DiceState, next_place, salt_at, vector_at}
use Rattle.decode_rules.specs.Terms.{Terms}
use Rattle.wire_msg.specs.Spelling.{frame_of}
use Rattle.wire_msg.specs.declared.message.EncodeAsk.{EncodeAsk}
use Rattle.wire_msg.specs.declared.message.Message.{Message}
use Rattle.wire_msg.specs.declared.message.Message.TheVariants.{EncodeRequest, DecodeRequest, Stop, Bye}
use Rattle.session_core.specs.Answering.{Own, before_answer, stop_status, takes_reading}
use Rattle.session_core.specs.AskedBy.{asked_by}
use Rattle.session_core.specs.EncodeReply.{Encodes, IsSealReply}
use Rattle.session_core.specs.Seed.{place_of, seed_of}
use Rattle.session_core.specs.Session.{Session}
use Rattle.session_core.specs.Turn.{IsAnswered, IsAt, IsDecoded, LeavesUnanswered, Stage, stage_of}
use Rattle.session_core.specs.declared.answer.Unanswered.TheVariants.{ClockFault, NoMemory}
use Rattle.session_core.proofs.StreamLemmas.{consumes_nothing}

-- a reply by the salt and the vector that the dice gave
pub encodes_drawn : (terms : Terms) (before after : Option DiceState) (dice : DiceState) (moment : ℕ) (asked : Asked) (salt vector reply : List ℕ)
    → before ≡ Some dice → after ≡ Some (record dice { place = next_place dice.place })
    → salt ≡ salt_at dice.seed dice.place → vector ≡ vector_at dice.seed dice.place
    → IsSealReply terms moment asked salt vector reply
    → Encodes terms (seed_of before) (place_of before) moment asked reply (place_of after)
encodes_drawn terms before after dice moment asked salt vector reply before_is after_is salt_is vector_is replies =
    rw (before_is, after_is) (
      subst (λ s. IsSealReply terms moment asked s (vector_at dice.seed dice.place) reply) salt_is
          (subst (λ v. IsSealReply terms moment asked salt v reply) vector_is replies),
      refl,
    )

-- sealing leaves the history as it was
pub answered_encode : (session : Session) (own : Own) (request : Message) (ask : EncodeAsk) (moment : ℕ) (reply : List ℕ) (readings readings' : Option (List ℕ)) (state : Remembered) (entries before place : ℕ)
    → request ≡ EncodeRequest ask → IsAt own (stage_of entries before)
    → Stands state (session.base ++ own.events) → Consumes readings readings' (moment ∷ [])
    → Encodes session.terms session.seed before moment (asked_by ask) reply place
    → IsAnswered session own request reply readings readings' state (stage_of entries place)
answered_encode session own request ask moment reply readings readings' state entries before place request_is is_at stands takes encodes =
    subst (λ r. IsAnswered session own r reply readings readings' state (stage_of entries place)) (sym request_is)
    (record {
      outcome = record { readings = moment ∷ []; replies = reply; own = record { events = own.events; place = place } };
      answers = record {
        moment = moment;
        readings_are = refl;
        encodes = subst (λ n. Encodes session.terms session.seed n moment (asked_by ask) reply place) (sym is_at.place_is) encodes;
        same_events = refl;
      };
      reply_is = refl;
      takes = takes;
      stands = stands;
      is_at = record { entries_are = is_at.entries_are; place_is = refl };
    })

-- opening draws no word
pub answered_decode : (session : Session) (own : Own) (request : Message) (text : List ℕ) (moment : ℕ) (reply : List ℕ) (readings readings' : Option (List ℕ)) (state : Remembered) (entries before place : ℕ)
    → request ≡ DecodeRequest text → IsAt own (stage_of before place)
    → Consumes readings readings' (moment ∷ [])
    → IsDecoded session own.events moment text reply entries state
    → IsAnswered session own request reply readings readings' state (stage_of entries place)
answered_decode session own request text moment reply readings readings' state entries before place request_is is_at takes decoded =
    subst (λ r. IsAnswered session own r reply readings readings' state (stage_of entries place)) (sym request_is)
    (record {
      outcome = record { readings = moment ∷ []; replies = reply; own = record { events = decoded.next; place = own.place } };
      answers = record { moment = moment; readings_are = refl; decodes = decoded.decodes; same_place = refl };
      reply_is = refl;
      takes = takes;
      stands = decoded.stands;
      is_at = record { entries_are = decoded.count; place_is = is_at.place_is };
    })

-- stopping does nothing of its own
pub answered_stop : (session : Session) (own : Own) (request : Message) (reply : List ℕ) (readings : Option (List ℕ)) (state : Remembered) (stage : Stage)
    → request ≡ Stop → IsAt own stage → Stands state (session.base ++ own.events)
    → reply ≡ frame_of (Bye (status_number (stop_status session.terms.who)))
    → IsAnswered session own request reply readings readings state stage
answered_stop session own request reply readings state stage request_is is_at stands reply_is =
    subst (λ r. IsAnswered session own r reply readings readings state stage) (sym request_is)
    (record {
      outcome = record { readings = []; replies = reply; own = own };
      answers = record { readings_none = refl; reply_is = reply_is; same = refl };
      reply_is = refl;
      takes = consumes_nothing readings;
      stands = stands;
      is_at = is_at;
    })

-- the clock gave no reading
pub left_unclocked : (session : Session) (own : List Event) (request whole : Message) (readings readings' : Option (List ℕ)) (state : Remembered)
    → request ≡ whole → takes_reading whole ≡ true → Keeps readings readings' → Stands state (session.base ++ own)
    → LeavesUnanswered session own request readings readings' state ClockFault
left_unclocked session own request whole readings readings' state request_is timed kept stands =
    (ap takes_reading request_is ∙ timed, record { kept = kept; stands = stands })

-- a reading was taken, and there was no memory for the reply
pub left_begun : (session : Session) (own : List Event) (request whole : Message) (moment : ℕ) (readings readings' : Option (List ℕ)) (state : Remembered)
    → request ≡ whole → takes_reading whole ≡ true → Consumes readings readings' (moment ∷ [])
    → Stands state (session.base ++ before_answer session.base own moment whole)
    → LeavesUnanswered session own request readings readings' state NoMemory
left_begun session own request whole moment readings readings' state request_is timed takes stands =
    inr (record {
      timed = ap takes_reading request_is ∙ timed;
      moment = moment;
      takes = takes;
      stands = subst (λ r. Stands state (session.base ++ before_answer session.base own moment r)) (sym request_is) stands;
    })

-- what stands behind a front completes it
pub whole_of : (front whole : List ℕ) → take (length front) whole ≡ front → front ++ drop (length front) whole ≡ whole
whole_of front whole begins =
    subst (λ (xs : List ℕ). xs ++ drop (length front) whole ≡ whole) begins (take-append-drop (length front) whole)

-- so many bytes stand behind a front
pub size_behind : (front whole : List ℕ) (size : ℕ) → length whole ≡ length front + size
    → length (drop (length front) whole) ≡ size
size_behind front whole size is = simp length-drop (omega (arith, is))
