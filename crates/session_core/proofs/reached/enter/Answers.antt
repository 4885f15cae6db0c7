use Rattle.std.proofs.Common.{subst, sym}
use Rattle.wire_msg.specs.declared.message.Message.TheVariants.{DecodeRequest}
use Rattle.session_core.specs.Reached.{Reaches}
use Rattle.session_core.specs.declared.reached.Reached.{Reached}
use Rattle.session_core.proofs.ServeLemmas.{entered, idled}
use Rattle.session_core.proofs.reached.enter.Goals as goal

pub returns-in-Ok-clause-reaches : goal.returns-in-Ok-clause-reaches
returns-in-Ok-clause-reaches g c = λ service text number ready.
    subst (λ (r : Reached). Reaches service c.args.pass.now c.admit.new.pass (DecodeRequest text) r r.place) (sym c.replied.ensures)
    (entered service c.args.pass.now c.admit.new.pass c.args.moment text c.args.ready c.in-Ok.admitted c.complete-reply.result number ready
    (rw c.pair.ensures at c.in-Ok.ensures.answered) c.complete-reply.ensures)

pub returns-in-Err-NoMemory-clause-reaches : goal.returns-in-Err-NoMemory-clause-reaches
returns-in-Err-NoMemory-clause-reaches g c = λ service text number ready.
    idled service c.args.pass.now c.admit.new.pass c.args.moment text c.args.ready c.length.result number ready
    (rw (c.pair.ensures, c.in-Err-NoMemory.field-0-is) at c.in-Err-NoMemory.ensures.refused) c.length.ensures
