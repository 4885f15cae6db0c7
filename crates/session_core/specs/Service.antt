-- How one request is answered on a gate.
use Rattle.std.specs.Prelude.{◌≡◌, ℕ, List, [], length}
use Rattle.std.specs.declared.option.Option.{Option}
use Rattle.std.specs.declared.option.Option.TheVariants.{None, Some}
use Rattle.munge_types.specs.Status.{status_number}
use Rattle.munge_types.specs.declared.history.Event.{Event}
use Rattle.munge_types.specs.declared.history.Event.TheVariants.{Admit}
use Rattle.munge_types.specs.declared.settings.Settings.{Settings}
use Rattle.cred_open.specs.Credential.{pair_of}
use Rattle.cred_seal.specs.Dice.{salt_at, vector_at}
use Rattle.decode_rules.specs.DecodeReply.{answer_to}
use Rattle.decode_rules.specs.Finding.{Finding, Refused, Ready, Finds}
use Rattle.decode_rules.specs.Terms.{Terms}
use Rattle.wire_msg.specs.Spelling.{frame_of}
use Rattle.wire_msg.specs.declared.message.EncodeAsk.{EncodeAsk}
use Rattle.wire_msg.specs.declared.message.Message.{Message}
use Rattle.wire_msg.specs.declared.message.Message.TheVariants.{EncodeRequest, EncodeReply, DecodeRequest, DecodeReply, Stop, Bye}
use Rattle.session_core.specs.Answering.{stop_status}
use Rattle.session_core.specs.AskedBy.{asked_by}
use Rattle.session_core.specs.EncodeReply.{IsSealReply}

-- what a connection is served by: the terms of its caller, the seed that words are drawn from, and
-- the number of the pass that makes its entry
pub record Service : Type 0 where
  pub terms : Terms
  pub seed : List ℕ
  pub number : ℕ

abbrev pub service_of : Terms → (seed : List ℕ) → (number : ℕ) → Service
service_of terms seed number = record { terms = terms; seed = seed; number = number }

-- an entry that was made on the gate, and the history before it
pub record Made : Type 0 where
  pub before : List Event
  pub entry : Event

-- the history before an entry; a text that is refused asks none
abbrev pub history_before : Option Made → List Event
history_before None = []
history_before (Some made) = made.before

-- what is told of an answer: the moment of the request, the rule of a decode reply, and the place
-- of the first word that was drawn
pub record Notes : Type 0 where
  pub moment : Option ℕ
  pub rule : Option ℕ
  pub drawn : Option ℕ

abbrev pub notes_of : (moment rule drawn : Option ℕ) → Notes
notes_of moment rule drawn = record { moment = moment; rule = rule; drawn = drawn }

-- The entry of a decode request is the look-up of its pair, by this pass, at this moment, and is
-- made exactly where none of the rules 1 to 12 is broken.
abbrev pub IsLookUp : Settings → (number moment : ℕ) → Finding → Option Made → Type 0
IsLookUp settings number moment (Refused rule status credential) made = made ≡ None
IsLookUp settings number moment (Ready credential) None = ⊥
IsLookUp settings number moment (Ready credential) (Some made) =
    made.entry ≡ Admit number (pair_of settings.max_ttl credential) moment

-- an encode request is answered, with the words that stand at the place that was drawn
pub record RepliesToAsk (service : Service) (ask : EncodeAsk) (notes : Notes) (reply : List ℕ)
    : Type 0 where
  pub moment : ℕ
  pub drawn : ℕ
  pub notes_are : notes ≡ notes_of (Some moment) None (Some drawn)
  pub reply_is : IsSealReply service.terms moment (asked_by ask)
      (salt_at service.seed drawn) (vector_at service.seed drawn) reply

-- a decode request is answered by the history before its entry
pub record RepliesToText (service : Service) (made : Option Made) (text : List ℕ) (notes : Notes)
    (reply : List ℕ) : Type 0 where
  pub moment : ℕ
  pub finding : Finding
  pub finds : Finds service.terms moment text finding
  pub look_up : IsLookUp service.terms.settings service.number moment finding made
  pub reply_is : let history = history_before made in
      reply ≡ (answer_to service.terms.settings history moment (length history) finding).bytes
  pub notes_are : let history = history_before made in
      let answer = answer_to service.terms.settings history moment (length history) finding in
      notes ≡ notes_of (Some moment) (Some answer.rule) None

-- Stop is answered, without a reading of the clock
pub record RepliesToStop (service : Service) (notes : Notes) (reply : List ℕ) : Type 0 where
  pub notes_are : notes ≡ notes_of None None None
  pub reply_is : reply ≡ frame_of (Bye (status_number (stop_status service.terms.who)))

-- The reply to a request, what is told of it, and the entry that it made: a decode request alone
-- makes one.
abbrev pub Replies : Service → (made : Option Made) → Message → Notes → (reply : List ℕ) → Type 0
Replies service made (EncodeRequest ask) notes reply =
    (made ≡ None) × RepliesToAsk service ask notes reply
Replies service made (DecodeRequest text) notes reply =
    RepliesToText service made text notes reply
Replies service made Stop notes reply = (made ≡ None) × RepliesToStop service notes reply
Replies service made (EncodeReply said) notes reply = ⊥
Replies service made (DecodeReply said) notes reply = ⊥
Replies service made (Bye status) notes reply = ⊥
