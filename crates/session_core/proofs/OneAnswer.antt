-- What a request, and a run, comes to is one thing at most.
use Rattle.std.proofs.Common.{◌≡◌, ℕ, List, [], ◌∷◌, ◌++◌, length, sym, ap, ◌∙◌, subst}
use Rattle.std.specs.declared.option.Option.{Option}
use Rattle.std.specs.declared.option.Option.TheVariants.{None, Some}
use Rattle.munge_types.specs.declared.history.Event.{Event}
use Rattle.munge_types.specs.declared.identity.Identity.{Identity}
use Rattle.munge_types.specs.declared.settings.Settings.{Settings}
use Rattle.munge_types.specs.declared.status.Status.{Status}
use Rattle.munge_types.specs.declared.status.Status.TheVariants as status
use Rattle.cred_seal.specs.Asked.{Asked}
use Rattle.cred_seal.specs.Dice.{salt_at, vector_at}
use Rattle.cred_seal.specs.SealedText.{IsSealed}
use Rattle.decode_rules.specs.DecodeReply.{answer_to}
use Rattle.decode_rules.specs.Finding.{Finding, Finds}
use Rattle.decode_rules.specs.Terms.{Terms}
use Rattle.wire_msg.specs.declared.message.EncodeAsk.{EncodeAsk}
use Rattle.wire_msg.specs.declared.message.Message.{Message}
use Rattle.wire_msg.specs.declared.message.Message.TheVariants.{EncodeRequest, EncodeReply, DecodeRequest, DecodeReply, Stop, Bye}
use Rattle.session_core.specs.Answering.{Answers, AnswersAsk, AnswersText, Decodes, Outcome, Own, Run, after_decode, before_decode, joined}
use Rattle.session_core.specs.AskedBy.{asked_by}
use Rattle.session_core.specs.EncodeReply.{Encodes, IsSealReply, encode_reply, refusal_status, sealed, refused}
use Rattle.session_core.specs.Session.{Session}

-- the law of findings, at every text
abbrev pub FindingsAreOne : Type 0
FindingsAreOne = (terms : Terms) (moment : ℕ) (text : List ℕ) (first second : Finding)
    → Finds terms moment text first → Finds terms moment text second → first ≡ second

-- the law of sealed texts, at every request
abbrev pub SealedTextsAreOne : Type 0
SealedTextsAreOne = (key : List ℕ) (settings : Settings) (asked : Asked) (who : Identity) (moment : ℕ) (salt vector first second : List ℕ)
    → IsSealed key settings asked who moment salt vector first → IsSealed key settings asked who moment salt vector second → first ≡ second

-- the law of answers, at every request
abbrev pub AnswersAreOne : Type 0
AnswersAreOne = (session : Session) (own : Own) (request : Message) (first second : Outcome)
    → Answers session own request first → Answers session own request second → first.readings ≡ second.readings → first ≡ second

-- ---- outcomes with the same parts are the same

same_own : (a b : Own) → a.events ≡ b.events → a.place ≡ b.place → a ≡ b
same_own a b events place = λ i. record { events = events i; place = place i }

same_outcome : (a b : Outcome) → a.readings ≡ b.readings → a.replies ≡ b.replies → a.own ≡ b.own → a ≡ b
same_outcome a b readings replies own = λ i. record { readings = readings i; replies = replies i; own = own i }

-- ---- a decode request

decodes_one : FindingsAreOne → (session : Session) (own : List Event) (moment : ℕ) (text reply reply' : List ℕ) (next next' : List Event)
    → Decodes session own moment text reply next → Decodes session own moment text reply' next' → (reply ≡ reply') × (next ≡ next')
decodes_one law session own moment text reply reply' next next' a b =
    let same = law session.terms moment text a.finding b.finding a.finds b.finds in
    let before = before_decode session.base own moment in (
      a.reply_is ∙ ap (λ (f : Finding). (answer_to session.terms.settings (session.base ++ before) moment (length before) f).bytes) same ∙ sym b.reply_is,
      a.next_is ∙ ap (λ (f : Finding). after_decode session.terms.settings moment before f) same ∙ sym b.next_is,
    )

text_one : FindingsAreOne → (session : Session) (own : Own) (text : List ℕ) (first second : Outcome)
    → AnswersText session own text first → AnswersText session own text second → first.readings ≡ second.readings → first ≡ second
text_one law session own text first second a b readings =
    let moments : a.moment ∷ [] ≡ b.moment ∷ [] = sym a.readings_are ∙ readings ∙ b.readings_are in
    let moment : a.moment ≡ b.moment = cc moments in
    let alike : Decodes session own.events b.moment text first.replies first.own.events =
    subst (λ (m : ℕ). Decodes session own.events m text first.replies first.own.events) moment a.decodes in
    let both = decodes_one law session own.events b.moment text first.replies second.replies first.own.events second.own.events alike b.decodes in
    same_outcome first second readings both.0 (same_own first.own second.own both.1 (a.same_place ∙ sym b.same_place))

-- ---- an encode request

seal_reply_one : SealedTextsAreOne → (terms : Terms) (moment : ℕ) (asked : Asked) (salt vector reply reply' : List ℕ)
    → IsSealReply terms moment asked salt vector reply → IsSealReply terms moment asked salt vector reply' → reply ≡ reply'
seal_reply_one law terms moment asked salt vector reply reply' (sealed text is reply_is) (sealed text' is' reply_is') =
    reply_is ∙ ap (encode_reply status.Success) (law terms.files.key terms.settings asked terms.who moment salt vector text text' is.is_sealed is'.is_sealed)
    ∙ sym reply_is'
seal_reply_one law terms moment asked salt vector reply reply' (sealed text is reply_is) (refused why said first said_is reply_is') =
    let unrefused = is.unrefused in cc (unrefused, first)
seal_reply_one law terms moment asked salt vector reply reply' (refused why said first said_is reply_is) (sealed text is reply_is') =
    let unrefused = is.unrefused in cc (unrefused, first)
seal_reply_one law terms moment asked salt vector reply reply' (refused why said first said_is reply_is) (refused why' said' first' said_is' reply_is') =
    let same : why ≡ why' = cc (first, first') in
    let both : ◌≡◌ {A = Option Status} (Some said) (Some said') = sym said_is ∙ (ap refusal_status same ∙ said_is') in
    let status_same : said ≡ said' = cc both in
    reply_is ∙ ap (λ (s : Status). encode_reply s []) status_same ∙ sym reply_is'

encodes_one : SealedTextsAreOne → (terms : Terms) (seed : Option (List ℕ)) (place moment : ℕ) (asked : Asked) (reply reply' : List ℕ) (next next' : ℕ)
    → Encodes terms seed place moment asked reply next → Encodes terms seed place moment asked reply' next' → (reply ≡ reply') × (next ≡ next')
encodes_one law terms None place moment asked reply reply' next next' a b = (a.0 ∙ sym b.0, a.1 ∙ sym b.1)
encodes_one law terms (Some seed) place moment asked reply reply' next next' a b =
    (seal_reply_one law terms moment asked (salt_at seed place) (vector_at seed place) reply reply' a.0 b.0, a.1 ∙ sym b.1)

ask_one : SealedTextsAreOne → (session : Session) (own : Own) (ask : EncodeAsk) (first second : Outcome)
    → AnswersAsk session own ask first → AnswersAsk session own ask second → first.readings ≡ second.readings → first ≡ second
ask_one law session own ask first second a b readings =
    let moments : a.moment ∷ [] ≡ b.moment ∷ [] = sym a.readings_are ∙ readings ∙ b.readings_are in
    let moment : a.moment ≡ b.moment = cc moments in
    let alike : Encodes session.terms session.seed own.place b.moment (asked_by ask) first.replies first.own.place =
    subst (λ (m : ℕ). Encodes session.terms session.seed own.place m (asked_by ask) first.replies first.own.place) moment a.encodes in
    let both = encodes_one law session.terms session.seed own.place b.moment (asked_by ask) first.replies second.replies first.own.place second.own.place alike b.encodes in
    same_outcome first second readings both.0 (same_own first.own second.own (a.same_events ∙ sym b.same_events) both.1)

-- ---- any request

pub answer_one : FindingsAreOne → SealedTextsAreOne → AnswersAreOne
answer_one findings texts session own (EncodeRequest ask) first second a b readings = ask_one texts session own ask first second a b readings
answer_one findings texts session own (DecodeRequest text) first second a b readings = text_one findings session own text first second a b readings
answer_one findings texts session own Stop first second a b readings =
    same_outcome first second readings (a.reply_is ∙ sym b.reply_is) (a.same ∙ sym b.same)
answer_one findings texts session own (EncodeReply said) first second a b readings = absurd a
answer_one findings texts session own (DecodeReply said) first second a b readings = absurd a
answer_one findings texts session own (Bye code) first second a b readings = absurd a

-- ---- a run

-- two lists of one reading each, and more behind
one_reading : (m m' : ℕ) (xs xs' rest rest' : List ℕ) → xs ≡ m ∷ [] → xs' ≡ m' ∷ [] → xs ++ rest ≡ xs' ++ rest'
    → (xs ≡ xs') × (rest ≡ rest')
one_reading m m' xs xs' rest rest' is is' same =
    let whole : m ∷ rest ≡ m' ∷ rest' = sym (ap (λ (l : List ℕ). l ++ rest) is) ∙ same ∙ ap (λ (l : List ℕ). l ++ rest') is' in
    let head : m ≡ m' = cc whole in
    let tail : rest ≡ rest' = cc whole in
    (is ∙ ap (λ (n : ℕ). n ∷ []) head ∙ sym is', tail)

no_reading : (xs xs' rest rest' : List ℕ) → xs ≡ [] → xs' ≡ [] → xs ++ rest ≡ xs' ++ rest' → (xs ≡ xs') × (rest ≡ rest')
no_reading xs xs' rest rest' is is' same =
    (is ∙ sym is', sym (ap (λ (l : List ℕ). l ++ rest) is) ∙ same ∙ ap (λ (l : List ℕ). l ++ rest') is')

-- how many readings there are for a request is told by its kind, so that the same readings in all
-- are the same for it and the same behind
readings_split : (session : Session) (own : Own) (request : Message) (first second : Outcome) (rest rest' : List ℕ)
    → Answers session own request first → Answers session own request second
    → first.readings ++ rest ≡ second.readings ++ rest' → (first.readings ≡ second.readings) × (rest ≡ rest')
readings_split session own (EncodeRequest ask) first second rest rest' a b same =
    one_reading a.moment b.moment first.readings second.readings rest rest' a.readings_are b.readings_are same
readings_split session own (DecodeRequest text) first second rest rest' a b same =
    one_reading a.moment b.moment first.readings second.readings rest rest' a.readings_are b.readings_are same
readings_split session own Stop first second rest rest' a b same =
    no_reading first.readings second.readings rest rest' a.readings_none b.readings_none same
readings_split session own (EncodeReply said) first second rest rest' a b same = absurd a
readings_split session own (DecodeReply said) first second rest rest' a b same = absurd a
readings_split session own (Bye code) first second rest rest' a b same = absurd a

pub run_one : AnswersAreOne → (session : Session) (own : Own) (requests : List Message) (first second : Outcome)
    → Run session own requests first → Run session own requests second → first.readings ≡ second.readings → first ≡ second
run_one law session own [] first second a b readings = a ∙ sym b
run_one law session own (request ∷ requests) first second a b readings =
    let both = ap (λ (o : Outcome). o.readings) (sym a.outcome_is) ∙ readings ∙ ap (λ (o : Outcome). o.readings) b.outcome_is in
    let split = readings_split session own request a.first b.first a.others.readings b.others.readings a.answers b.answers both in
    let same = law session own request a.first b.first a.answers b.answers split.0 in
    let later : Run session a.first.own requests b.others =
    subst (λ (o : Outcome). Run session o.own requests b.others) (sym same) b.later in
    let others = run_one law session a.first.own requests a.others b.others a.later later split.1 in
    a.outcome_is ∙ ap (λ (o : Outcome). joined o a.others) same ∙ ap (λ (o : Outcome). joined b.first o) others ∙ sym b.outcome_is
