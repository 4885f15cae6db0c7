use Rattle.std.proofs.Common.{sym, ◌∙◌, subst}
use Rattle.std.specs.Prelude.{IfOk}
use Rattle.replay_gate.specs.Answers.{Answers}
use Rattle.replay_gate.specs.GoesOn.{GoesOn}
use Rattle.replay_gate.specs.PassState.{PassState}
use Rattle.replay_gate.proofs.Twice.{not_both}
use Rattle.replay_gate.proofs.tests.admit_both.Goals as goal

pub returns : goal.returns
returns g c = λ p q.
    let pair = c.args.pair.now in
    let moment = c.args.moment in
    let longer = c.meet-both.result.seen in
    let one = subst (λ o. IfOk o (λ done. Answers c.args.first done.0 pair moment done.1)) c.in_ok-first.was c.join-one.ensures.first in
    let other = subst (λ o. IfOk o (λ done. Answers c.args.second done.0 pair moment done.1)) c.in_ok-second.was c.join-one.ensures.second in
    not_both one.before other.before longer c.args.first.numbers c.args.second.numbers c.args.first.number c.args.second.number pair moment c.requires.apart
    (subst (λ (z : PassState). GoesOn z.numbers z.seen longer) one.enters.after_is c.meet-both.ensures.first_goes_on)
    (subst (λ (z : PassState). GoesOn z.numbers z.seen longer) other.enters.after_is c.meet-both.ensures.second_goes_on)
    (sym one.verdict_is ∙ p)
    (sym other.verdict_is ∙ q)
