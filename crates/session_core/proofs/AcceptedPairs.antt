-- Which pairs a run accepts.
use Rattle.std.proofs.Common.{◌≡◌, ◌≢◌, ℕ, Bool, true, false, cond, nat_le, ◌+◌, List, [], ◌∷◌, ◌++◌, sym, ap, ◌∙◌, refl, append_assoc, arith}
use Rattle.std.proofs.lemmas.List.{append-nil}
use Rattle.std.proofs.lemmas.Map.Keys.{IsDistinct-tail}
use Rattle.std.specs.List.{IsDistinct}
use Rattle.munge_types.specs.History.{accepted, floor, verdict, with_accepted}
use Rattle.munge_types.specs.declared.history.Event.{Event}
use Rattle.munge_types.specs.declared.history.Event.TheVariants.{Admit, Purge}
use Rattle.munge_types.specs.declared.history.Verdict.{Verdict}
use Rattle.munge_types.specs.declared.history.Verdict.TheVariants.{Accepted, Expired, Replayed}
use Rattle.munge_types.specs.declared.pair.Pair.{Pair}
use Rattle.munge_types.specs.declared.settings.Settings.{Settings}
use Rattle.cred_open.specs.Credential.{pair_of}
use Rattle.decode_rules.specs.DecodeReply.{answer_to}
use Rattle.decode_rules.specs.Finding.{Finding, Refused, Ready, Finds}
use Rattle.decode_rules.specs.Terms.{Terms}
use Rattle.decode_rules.specs.VerdictRules.{verdict_rule}
use Rattle.wire_msg.specs.declared.message.Message.{Message}
use Rattle.wire_msg.specs.declared.message.Message.TheVariants.{EncodeRequest, EncodeReply, DecodeRequest, DecodeReply, Stop, Bye}
use Rattle.session_core.proofs.RulesBroken.{refusal_rule}
use Rattle.session_core.specs.Answering.{Answers, Outcome, Own, Run, after_decode, before_decode, purge_interval}
use Rattle.session_core.specs.RoundTrip.{if_accepted, pair_by, pair_with, pairs_accepted}
use Rattle.session_core.specs.Session.{Session}

-- what a look-up, and a purge, does to the accepted pairs
pub record OneMore : Type 0 where
  pub admit : (history : List Event) (pass : ℕ) (pair : Pair) (moment : ℕ)
      → accepted (history ++ Admit pass pair moment ∷ []) ≡ with_accepted (verdict history pair moment) (accepted history) pair
  pub purge : (history : List Event) (pass moment : ℕ) → accepted (history ++ Purge pass moment ∷ []) ≡ accepted history

added : (said : Verdict) (pairs : List Pair) (pair : Pair) → with_accepted said pairs pair ≡ pairs ++ if_accepted said pair
added Accepted pairs pair = refl
added Expired pairs pair = sym (append-nil pairs)
added Replayed pairs pair = sym (append-nil pairs)

-- a purge before a decode request accepts nothing
accepted_before : OneMore → (base own : List Event) (moment : ℕ)
    → accepted (base ++ before_decode base own moment) ≡ accepted (base ++ own)
accepted_before more base own moment =
    elim (nat_le (floor (base ++ own) + purge_interval) moment)
    as (λ due. accepted (base ++ cond due (own ++ Purge 0 moment ∷ []) own) ≡ accepted (base ++ own)) [
      | true ↦ ap accepted (sym (append_assoc base own (Purge 0 moment ∷ []))) ∙ more.purge (base ++ own) 0 moment
      | false ↦ refl
    ]

-- a decode request accepts the pair of its reply
accepted_after : OneMore → (settings : Settings) (base before : List Event) (moment : ℕ) (finding : Finding)
    → accepted (base ++ after_decode settings moment before finding)
    ≡ accepted (base ++ before) ++ pair_by settings (base ++ before) moment finding
accepted_after more settings base before moment (Refused rule said shown) = sym (append-nil (accepted (base ++ before)))
accepted_after more settings base before moment (Ready credential) =
    let pair = pair_of settings.max_ttl credential in
    ap accepted (sym (append_assoc base before (Admit 0 pair moment ∷ [])))
    ∙ more.admit (base ++ before) 0 pair moment
    ∙ added (verdict (base ++ before) pair moment) (accepted (base ++ before)) pair

unchanged : (base : List Event) (own next : List Event) → next ≡ own
    → accepted (base ++ next) ≡ accepted (base ++ own) ++ []
unchanged base own next same =
    ap (λ (events : List Event). accepted (base ++ events)) same ∙ sym (append-nil (accepted (base ++ own)))

accepted_one : OneMore → (session : Session) (own : Own) (request : Message) (outcome : Outcome)
    (answers : Answers session own request outcome)
    → accepted (session.base ++ outcome.own.events)
    ≡ accepted (session.base ++ own.events) ++ pair_with session own request outcome answers
accepted_one more session own (EncodeRequest ask) outcome answers =
    unchanged session.base own.events outcome.own.events answers.same_events
accepted_one more session own (DecodeRequest text) outcome answers =
    let before = before_decode session.base own.events answers.moment in
    let finding = answers.decodes.finding in
    ap (λ (events : List Event). accepted (session.base ++ events)) answers.decodes.next_is
    ∙ accepted_after more session.terms.settings session.base before answers.moment finding
    ∙ ap (λ (pairs : List Pair). pairs ++ pair_by session.terms.settings (session.base ++ before) answers.moment finding)
    (accepted_before more session.base own.events answers.moment)
accepted_one more session own Stop outcome answers =
    unchanged session.base own.events outcome.own.events (ap (λ (o : Own). o.events) answers.same)
accepted_one more session own (EncodeReply said) outcome answers = absurd answers
accepted_one more session own (DecodeReply said) outcome answers = absurd answers
accepted_one more session own (Bye code) outcome answers = absurd answers

pub accepted_grown : OneMore → (session : Session) (own : Own) (requests : List Message) (outcome : Outcome)
    (run : Run session own requests outcome)
    → accepted (session.base ++ outcome.own.events)
    ≡ accepted (session.base ++ own.events) ++ pairs_accepted session own requests outcome run
accepted_grown more session own [] outcome run =
    unchanged session.base own.events outcome.own.events (ap (λ (o : Outcome). o.own.events) run)
accepted_grown more session own (request ∷ requests) outcome run =
    let earlier = accepted (session.base ++ own.events) in
    let pair = pair_with session own request run.first run.answers in
    let pairs = pairs_accepted session run.first.own requests run.others run.later in
    ap (λ (o : Outcome). accepted (session.base ++ o.own.events)) run.outcome_is
    ∙ accepted_grown more session run.first.own requests run.others run.later
    ∙ ap (λ (more : List Pair). more ++ pairs) (accepted_one more session own request run.first run.answers)
    ∙ append_assoc earlier pair pairs

-- what is behind in a list without a repeated element has none either
pub IsDistinct-behind : {X : Type 0} (equals : X → X → Bool) (xs ys : List X) → IsDistinct equals (xs ++ ys) → IsDistinct equals ys
IsDistinct-behind equals [] ys distinct = distinct
IsDistinct-behind equals (x ∷ xs) ys distinct = IsDistinct-behind equals xs ys (IsDistinct-tail equals x (xs ++ ys) distinct)

-- ---- a reply has a pair exactly where its rule is 0

by_verdict : (said : Verdict) (pair : Pair)
    → (if_accepted said pair ≢ [] → verdict_rule said ≡ 0) × (verdict_rule said ≡ 0 → if_accepted said pair ≢ [])
by_verdict Accepted pair = (λ some. refl, λ is none. cc none)
by_verdict Expired pair = (λ some. absurd (some refl), λ is. absurd (omega (arith, is)))
by_verdict Replayed pair = (λ some. absurd (some refl), λ is. absurd (omega (arith, is)))

pub by_rule : (terms : Terms) (history : List Event) (moment place : ℕ) (text : List ℕ) (finding : Finding) → Finds terms moment text finding
    → (pair_by terms.settings history moment finding ≢ [] → (answer_to terms.settings history moment place finding).rule ≡ 0)
    × ((answer_to terms.settings history moment place finding).rule ≡ 0 → pair_by terms.settings history moment finding ≢ [])
by_rule terms history moment place text (Refused rule said shown) finds =
    let above = refusal_rule terms moment text (Refused rule said shown) rule said shown finds refl in
    (λ some. absurd (some refl), λ is. absurd (omega (arith, is, above)))
by_rule terms history moment place text (Ready credential) finds =
    let pair = pair_of terms.settings.max_ttl credential in by_verdict (verdict history pair moment) pair
