-- What a session sealed opens.
use Rattle.std.proofs.Common.{◌≡◌, ℕ, List, [], ◌∷◌, ◌++◌, length, sym, ap, ◌∙◌, subst, refl, arith, inl, inr}
use Rattle.std.specs.declared.option.Option.{Option}
use Rattle.std.specs.declared.option.Option.TheVariants.{None, Some}
use Rattle.munge_types.specs.History.{verdict}
use Rattle.munge_types.specs.Status.{status_number}
use Rattle.munge_types.specs.declared.history.Event.{Event}
use Rattle.munge_types.specs.declared.history.Verdict.{Verdict}
use Rattle.munge_types.specs.declared.history.Verdict.TheVariants.{Accepted, Expired, Replayed}
use Rattle.munge_types.specs.declared.settings.Settings.{Settings}
use Rattle.munge_types.specs.declared.status.Status.{Status}
use Rattle.munge_types.specs.declared.status.Status.TheVariants as status
use Rattle.cred_armor.specs.CredentialText.{AreSpaces}
use Rattle.cred_open.specs.Credential.{Credential, pair_of}
use Rattle.cred_seal.specs.Asked.{Asked}
use Rattle.cred_seal.specs.Dice.{salt_at, vector_at}
use Rattle.cred_seal.specs.RoundTrip.{OpensInSpaces}
use Rattle.cred_seal.specs.declared.sealing.SealRefused.{SealRefused}
use Rattle.cred_seal.specs.declared.sealing.SealRefused.TheVariants as cause
use Rattle.cred_open.specs.OpeningRules.{first_broken}
use Rattle.decode_rules.specs.CallerRules.{uid_rule, gid_rule, time_rule}
use Rattle.decode_rules.specs.DecodeReply.{answer_of, answer_to, verdict_answer}
use Rattle.decode_rules.specs.Finding.{Finding, finding_of, found_by, opened}
use Rattle.decode_rules.specs.Terms.{Terms}
use Rattle.decode_rules.specs.VerdictRules.{verdict_rule}
use Rattle.wire_msg.specs.declared.message.EncodeAsk.{EncodeAsk}
use Rattle.session_core.proofs.OneAnswer.{FindingsAreOne}
use Rattle.session_core.specs.Answering.{AnswersAsk, AnswersText, Outcome, Own, before_decode}
use Rattle.session_core.specs.AskedBy.{asked_by}
use Rattle.session_core.specs.EncodeReply.{Encodes, IsSealReply, content_sealed, encode_reply, refusal_status, sealed, refused}
use Rattle.session_core.specs.RoundTrip.{IsLateRule, OpensTo, salt_from, what_is_sealed}
use Rattle.session_core.specs.Session.{Session}

-- ---- the text of an encode reply with status 0

same_status : (said said' : Status) (text text' : List ℕ) → encode_reply said text ≡ encode_reply said' text'
    → status_number said ≡ status_number said'
same_status said said' text text' same = cc same

same_text : (said said' : Status) (text text' : List ℕ) → encode_reply said text ≡ encode_reply said' text' → text ≡ text'
same_text said said' text text' same = cc same

-- a refusal has another status than 0
refused_status : (why : SealRefused) (said : Status) → refusal_status why ≡ Some said → status_number said ≡ 0 → ⊥
refused_status cause.BadCipher said is zero = let same : status.BadCipher ≡ said = cc is in absurd (omega (arith, ap status_number same, zero))
refused_status cause.BadMac said is zero = let same : status.BadMac ≡ said = cc is in absurd (omega (arith, ap status_number same, zero))
refused_status (cause.BadLength size) said is zero = let same : status.BadLength ≡ said = cc is in absurd (omega (arith, ap status_number same, zero))
refused_status cause.NoMemory said is zero = cc is

-- the text of an encode reply with status 0 opens
opens_in_spaces : (terms : Terms) (seed : Option (List ℕ)) (place moment : ℕ) (asked : Asked) (reply text : List ℕ) (next : ℕ)
    → Encodes terms seed place moment asked reply next → reply ≡ encode_reply status.Success text
    → OpensInSpaces terms.files.key (content_sealed terms moment asked (salt_from seed place)) text
opens_in_spaces terms None place moment asked reply text next encodes reply_is =
    absurd (omega (arith, same_status status.BadArgument status.Success [] text (sym encodes.0 ∙ reply_is)))
opens_in_spaces terms (Some seed) place moment asked reply text next encodes reply_is =
    of_reply encodes.0
  where
    of_reply : IsSealReply terms moment asked (salt_at seed place) (vector_at seed place) reply
        → OpensInSpaces terms.files.key (content_sealed terms moment asked (salt_at seed place)) text
    of_reply (sealed text' is is_reply) =
        subst (OpensInSpaces terms.files.key (content_sealed terms moment asked (salt_at seed place)))
        (same_text status.Success status.Success text' text (sym is_reply ∙ reply_is)) is.opens
    of_reply (refused why said first said_is is_reply) =
        absurd (refused_status why said said_is (same_status said status.Success [] text (sym is_reply ∙ reply_is)))

-- ---- the reply to a credential

verdict_late : (said : Verdict) → IsLateRule (verdict_rule said)
verdict_late Accepted = inl refl
verdict_late Expired = inr (omega arith, omega arith)
verdict_late Replayed = inr (omega arith, omega arith)

verdict_shows : (said : Verdict) (place : ℕ) (credential : Credential) → verdict_rule said ≡ 0
    → verdict_answer said place credential ≡ answer_of status.Success 0 place (Some credential)
verdict_shows Accepted place credential zero = refl
verdict_shows Expired place credential zero = absurd (omega (arith, zero))
verdict_shows Replayed place credential zero = absurd (omega (arith, zero))

module _ (settings : Settings) (history : List Event) (moment place : ℕ) (credential : Credential) where
  rule_late : (uid gid time : Option Status) → let found = first_broken ((10, uid) ∷ (11, gid) ∷ (12, time) ∷ []) in
      IsLateRule (answer_to settings history moment place (found_by found credential)).rule
  rule_late (Some said) gid time = inr (omega arith, omega arith)
  rule_late None (Some said) time = inr (omega arith, omega arith)
  rule_late None None (Some said) = inr (omega arith, omega arith)
  rule_late None None None = verdict_late (verdict history (pair_of settings.max_ttl credential) moment)

  rule_shows : (uid gid time : Option Status) → let found = first_broken ((10, uid) ∷ (11, gid) ∷ (12, time) ∷ []) in
      (answer_to settings history moment place (found_by found credential)).rule ≡ 0
      → answer_to settings history moment place (found_by found credential) ≡ answer_of status.Success 0 place (Some credential)
  rule_shows (Some said) gid time zero = absurd (omega (arith, zero))
  rule_shows None (Some said) time zero = absurd (omega (arith, zero))
  rule_shows None None (Some said) zero = absurd (omega (arith, zero))
  rule_shows None None None zero = verdict_shows (verdict history (pair_of settings.max_ttl credential) moment) place credential zero

-- ---- both

pub sealed_opens : FindingsAreOne → (session : Session) (own own' : Own) (ask : EncodeAsk) (text before after : List ℕ)
    (outcome outcome' : Outcome) (answers : AnswersAsk session own ask outcome)
    → outcome.replies ≡ encode_reply status.Success text → AreSpaces before → AreSpaces after
    → (asked : AnswersText session own' (before ++ (text ++ after)) outcome')
    → OpensTo session own'.events asked.moment (what_is_sealed session own ask outcome answers) outcome'.replies
sealed_opens law session own own' ask text before after outcome outcome' answers reply_is spaces spaces' asked =
    let terms = session.terms in
    let moment = asked.moment in
    let opens = opens_in_spaces terms session.seed own.place answers.moment (asked_by ask) outcome.replies text outcome.own.place
    answers.encodes reply_is before after spaces spaces' in
    let found = opens.credential in
    let same = law terms moment (before ++ (text ++ after)) asked.decodes.finding (finding_of terms moment found)
    asked.decodes.finds (opened found opens.opens) in
    let events = before_decode session.base own'.events moment in
    let history = session.base ++ events in
    let place = length events in
    let uid = uid_rule terms found.content in
    let gid = gid_rule terms found.content in
    let time = time_rule terms moment found.content in
    record {
      credential = found;
      content_is = opens.content_is;
      answer = answer_to terms.settings history moment place (finding_of terms moment found);
      reply_is = asked.decodes.reply_is ∙ ap (λ (f : Finding). (answer_to terms.settings history moment place f).bytes) same;
      answer_is = refl;
      rule_is = rule_late terms.settings history moment place found uid gid time;
      shows = rule_shows terms.settings history moment place found uid gid time;
    }
