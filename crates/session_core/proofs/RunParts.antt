-- A run is that of its first requests, the answer to the next, and the run of the rest.
use Rattle.std.proofs.Common.{◌≡◌, List, [], ◌∷◌, ◌++◌, sym, ap, ◌∙◌, refl, append_assoc}
use Rattle.wire_msg.specs.declared.message.Message.{Message}
use Rattle.session_core.specs.Answering.{Outcome, Own, Run, joined, nothing_came}
use Rattle.session_core.specs.RoundTrip.{IsAnsweredWithin}
use Rattle.session_core.specs.Session.{Session}

-- what comes of requests, of more, and of others, is the same however it is joined
joined-assoc : (first middle last : Outcome) → joined first (joined middle last) ≡ joined (joined first middle) last
joined-assoc first middle last = λ i. record {
  readings = sym (append_assoc first.readings middle.readings last.readings) i;
  replies = sym (append_assoc first.replies middle.replies last.replies) i;
  own = last.own;
}

pub answered_within : (session : Session) (own : Own) (front back : List Message) (request : Message) (outcome : Outcome)
    → Run session own (front ++ request ∷ back) outcome → IsAnsweredWithin session own front request back outcome
answered_within session own [] back request outcome run = record {
  earlier = nothing_came own;
  ran = refl;
  answer = run.first;
  answers = run.answers;
  later = run.others;
  runs_on = run.later;
  outcome_is = run.outcome_is;
}
answered_within session own (first ∷ front) back request outcome run =
    let within = answered_within session run.first.own front back request run.others run.later in
    record {
      earlier = joined run.first within.earlier;
      ran = record { first = run.first; answers = run.answers; others = within.earlier; later = within.ran; outcome_is = refl };
      answer = within.answer;
      answers = within.answers;
      later = within.later;
      runs_on = within.runs_on;
      outcome_is = run.outcome_is ∙ ap (λ (o : Outcome). joined run.first o) within.outcome_is
          ∙ joined-assoc run.first within.earlier (joined within.answer within.later);
    }
