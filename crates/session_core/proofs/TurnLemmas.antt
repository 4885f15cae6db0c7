-- What an answer leaves of the history.
use Rattle.std.proofs.Common.{◌≡◌, ℕ, ◌+◌, List, [], ◌∷◌, ◌++◌, length, ap, ◌∙◌, subst, arith}
use Rattle.std.proofs.lemmas.List.{append_assoc, length-append}
use Rattle.munge_types.specs.History.{verdict}
use Rattle.munge_types.specs.StandsFor.{Remembered, Stands}
use Rattle.munge_types.specs.declared.history.Event.{Event}
use Rattle.munge_types.specs.declared.history.Event.TheVariants.{Admit}
use Rattle.munge_types.specs.declared.history.Verdict.{Verdict}
use Rattle.cred_open.specs.Credential.{Credential, pair_of}
use Rattle.decode_rules.specs.DecodeReply.{unsaid_frame, verdict_answer}
use Rattle.decode_rules.specs.Finding.{Ready}
use Rattle.decode_rules.specs.Prepared.{IsReady}
use Rattle.decode_rules.specs.Reply.{Answer, Pending}
use Rattle.session_core.specs.Answering.{before_decode}
use Rattle.session_core.specs.Session.{Session}
use Rattle.session_core.specs.Turn.{IsDecoded, IsPurged}

-- A credential that was ready was looked up, and its reply was completed.
pub answered_ready : (session : Session) (own : List Event) (moment more entries : ℕ) (before after : Remembered) (text : List ℕ) (ready : Pending) (reply : Answer) (said : Verdict)
    → length own ≡ entries
    → IsPurged before session.base own moment more
    → IsReady session.terms moment text ready
    → ((history : List Event) → Stands before history → said ≡ verdict history ready.pair moment)
    → ((history : List Event) (pass : ℕ) → Stands before history → Stands after (history ++ Admit pass ready.pair moment ∷ []))
    → ((credential : Credential) → ready.frame ≡ unsaid_frame credential → reply ≡ verdict_answer said (entries + more) credential)
    → IsDecoded session own moment text reply.bytes (entries + more + 1) after
answered_ready session own moment more entries before after text ready reply said count purged is_ready says stands completed =
    let events : List Event = before_decode session.base own moment in
    let credential = is_ready.credential in
    let pair_is = ap (λ (p : Pending). p.pair) is_ready.ready_is in
    let placed : entries + more ≡ length events = omega (arith, count, purged.count) in
    let history : List Event = session.base ++ events in
    record {
      next = events ++ Admit 0 ready.pair moment ∷ [];
      decodes = record {
        finding = Ready credential;
        finds = is_ready.finds;
        reply_is = ap (λ (a : Answer). a.bytes) (completed credential (ap (λ (p : Pending). p.frame) is_ready.ready_is))
            ∙ ap (λ v. (verdict_answer v (entries + more) credential).bytes) (says history purged.stands)
            ∙ ap (λ p. (verdict_answer (verdict history p moment) (entries + more) credential).bytes) pair_is
            ∙ ap (λ n. (verdict_answer (verdict history (pair_of session.terms.settings.max_ttl credential) moment) n credential).bytes) placed;
        next_is = ap (λ p. events ++ Admit 0 p moment ∷ []) pair_is;
      };
      stands = subst (λ h. Stands after h) (append_assoc session.base events (Admit 0 ready.pair moment ∷ [])) (stands history 0 purged.stands);
      count = length-append events (Admit 0 ready.pair moment ∷ []) ∙ omega (arith, placed);
    }
