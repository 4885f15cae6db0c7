use Rattle.std.proofs.Common.{ap}
use Rattle.std.specs.declared.option.Option.TheVariants.{Some}
use Rattle.session_core.proofs.AnswerLemmas.{encodes_drawn}
use Rattle.session_core.proofs.encode.encode.Goals as goal

pub returns-in_ok-reply-in-Some-clause-encoded : goal.returns-in_ok-reply-in-Some-clause-encoded
returns-in_ok-reply-in-Some-clause-encoded c = λ files is.
    encodes_drawn _ _ _ c.in-Some.dice _ _ _ _ _ c.in-Some.is (ap Some c.draw-drawn.ensures.goes_on)
    c.draw-drawn.ensures.salt c.draw-drawn.ensures.vector (c.in_ok-reply-in-Some.ensures files is)
