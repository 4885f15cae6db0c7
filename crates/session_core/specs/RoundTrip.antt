-- What the replies of a session say of one another: which pairs were accepted, and that what was
-- sealed opens.
use Rattle.std.specs.Prelude.{◌≡◌, ℕ, ◌≤◌, ◌⊎◌, List, [], ◌∷◌, ◌++◌, length}
use Rattle.std.specs.declared.option.Option.{Option}
use Rattle.std.specs.declared.option.Option.TheVariants.{None, Some}
use Rattle.munge_types.specs.History.{verdict}
use Rattle.munge_types.specs.declared.history.Event.{Event}
use Rattle.munge_types.specs.declared.history.Verdict.{Verdict}
use Rattle.munge_types.specs.declared.history.Verdict.TheVariants.{Accepted, Expired, Replayed}
use Rattle.munge_types.specs.declared.pair.Pair.{Pair}
use Rattle.munge_types.specs.declared.settings.Settings.{Settings}
use Rattle.munge_types.specs.declared.status.Status.TheVariants.{Success}
use Rattle.cred_inner.specs.InnerPart.{Content}
use Rattle.cred_open.specs.Credential.{Credential, pair_of}
use Rattle.cred_seal.specs.Dice.{salt_at}
use Rattle.decode_rules.specs.DecodeReply.{answer_of, answer_to}
use Rattle.decode_rules.specs.Finding.{Finding, Refused, Ready, finding_of}
use Rattle.decode_rules.specs.Reply.{Answer}
use Rattle.wire_msg.specs.declared.message.EncodeAsk.{EncodeAsk}
use Rattle.wire_msg.specs.declared.message.Message.{Message}
use Rattle.wire_msg.specs.declared.message.Message.TheVariants.{EncodeRequest, EncodeReply, DecodeRequest, DecodeReply, Stop, Bye}
use Rattle.session_core.specs.Answering.{Answers, AnswersAsk, AnswersText, Outcome, Own, Run, before_decode, joined}
use Rattle.session_core.specs.AskedBy.{asked_by}
use Rattle.session_core.specs.EncodeReply.{content_sealed}
use Rattle.session_core.specs.Session.{Session}

-- the pair, if this was said of it
abbrev pub if_accepted : Verdict → Pair → List Pair
if_accepted Accepted pair = pair ∷ []
if_accepted Expired pair = []
if_accepted Replayed pair = []

-- the pair of a decode reply with rule 0: that of a text that breaks none of the rules 1 to 12,
-- where the history accepts it
abbrev pub pair_by : Settings → List Event → (moment : ℕ) → Finding → List Pair
pair_by settings history moment (Refused rule status credential) = []
pair_by settings history moment (Ready credential) =
    let pair = pair_of settings.max_ttl credential in if_accepted (verdict history pair moment) pair

-- the pair of the reply to one request, if it is a decode reply with rule 0
abbrev pub pair_with : (session : Session) (own : Own) (request : Message) (outcome : Outcome)
    → Answers session own request outcome → List Pair
pair_with session own (DecodeRequest text) outcome answers =
    let before = before_decode session.base own.events answers.moment in
    pair_by session.terms.settings (session.base ++ before) answers.moment answers.decodes.finding
pair_with session own (EncodeRequest ask) outcome answers = []
pair_with session own Stop outcome answers = []
pair_with session own (EncodeReply said) outcome answers = absurd answers
pair_with session own (DecodeReply said) outcome answers = absurd answers
pair_with session own (Bye status) outcome answers = absurd answers

-- the pairs of all decode replies of a run with rule 0, in order
abbrev pub pairs_accepted : (session : Session) (own : Own) (requests : List Message)
    (outcome : Outcome) → Run session own requests outcome → List Pair
pairs_accepted session own [] outcome run = []
pairs_accepted session own (request ∷ requests) outcome run =
    pair_with session own request run.first run.answers
    ++ pairs_accepted session run.first.own requests run.others run.later

-- the answer by what a text comes to, at this moment after the session's own events
abbrev pub answer_after : Session → (own : List Event) → (moment : ℕ) → Finding → Answer
answer_after session own moment finding =
    let before = before_decode session.base own moment in
    answer_to session.terms.settings (session.base ++ before) moment (length before) finding

-- the answer whose frame is the reply to a decode request
abbrev pub answer_given : (session : Session) (own : Own) (text : List ℕ) (outcome : Outcome)
    → AnswersText session own text outcome → Answer
answer_given session own text outcome answers =
    answer_after session own.events answers.moment answers.decodes.finding

-- the salt that is drawn at a place of the seed, if there is one
abbrev pub salt_from : (seed : Option (List ℕ)) → (place : ℕ) → List ℕ
salt_from None place = []
salt_from (Some seed) place = salt_at seed place

-- what was asked of a session by its caller, at the moment of the answer, as a sealed credential
-- says it: the caller's UID and GID, the moment, the restrictions, the time to live and the payload
abbrev pub what_is_sealed : (session : Session) (own : Own) (ask : EncodeAsk) (outcome : Outcome)
    → AnswersAsk session own ask outcome → Content
what_is_sealed session own ask outcome answers =
    content_sealed session.terms answers.moment (asked_by ask) (salt_from session.seed own.place)

-- no rule is broken, or one of the rules 10 to 14
abbrev pub IsLateRule : (rule : ℕ) → Type 0
IsLateRule rule = (rule ≡ 0) ⊎ ((10 ≤ rule) × (rule ≤ 14))

-- The reply is that to a credential that says this, at this moment after the session's own events,
-- by the rules 10 to 14. With rule 0 it has status 0 and shows what the credential says; else it
-- says which of these rules is broken, and shows the credential by the rules 12 to 14 alone.
pub record OpensTo (session : Session) (own : List Event) (moment : ℕ) (content : Content)
    (reply : List ℕ) : Type 0 where
  pub credential : Credential
  pub content_is : credential.content ≡ content
  pub answer : Answer
  pub answer_is : let finding = finding_of session.terms moment credential in
      answer ≡ answer_after session own moment finding
  pub reply_is : reply ≡ answer.bytes
  pub rule_is : IsLateRule answer.rule
  pub shows : let place = length (before_decode session.base own moment) in
      answer.rule ≡ 0 → answer ≡ answer_of Success 0 place (Some credential)

-- From a session that has done this of its own: the requests in front are answered, then this
-- request, then those behind it, and this comes of all.
pub record IsAnsweredWithin (session : Session) (own : Own) (front : List Message)
    (request : Message) (back : List Message) (outcome : Outcome) : Type 0 where
  pub earlier : Outcome
  pub ran : Run session own front earlier
  pub answer : Outcome
  pub answers : Answers session earlier.own request answer
  pub later : Outcome
  pub runs_on : Run session answer.own back later
  pub outcome_is : outcome ≡ joined earlier (joined answer later)
