use Rattle.std.proofs.Common.{subst, sym}
use Rattle.decode_rules.proofs.PreparedTexts.{breaks_alike, pending_is}
use Rattle.decode_rules.specs.Prepared.{IsBarred}
use Rattle.decode_rules.specs.Terms.{terms_of}
use Rattle.decode_rules.proofs.prepared.judge.Goals as goal

pub returns-in_ok-frame-in-None : goal.returns-in_ok-frame-in-None
returns-in_ok-frame-in-None c = λ files is. (
  breaks_alike (terms_of c.args.world.now c.args.who files) c.args.moment _ c.args.opened.now _ c.inner.ensures.content (c.in-None.ensures files is),
  pending_is _ c.args.opened.now c.pair-pair.result c.in_ok-frame-in-None.frame.items c.pair-pair.ensures.mac c.pair-pair.ensures.expiry c.in_ok-frame-in-None.ensures,
)

pub returns-in_ok-reply-in-Some : goal.returns-in_ok-reply-in-Some
returns-in_ok-reply-in-Some c = λ files is.
    subst (λ broken. IsBarred broken c.args.opened.now c.in_ok-reply-in-Some.reply)
    (sym (breaks_alike (terms_of c.args.world.now c.args.who files) c.args.moment _ c.args.opened.now _ c.inner.ensures.content (c.in-Some.ensures files is)))
    c.in_ok-reply-in-Some.ensures
