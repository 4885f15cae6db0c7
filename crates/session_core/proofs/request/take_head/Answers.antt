use Rattle.std.proofs.Common.{refl}
use Rattle.session_core.proofs.RequestLemmas.{head_comes, head_no_memory, head_wants}
use Rattle.session_core.proofs.request.take_head.Goals as goal

pub returns-in-Ok-Message-clause-comes : goal.returns-in-Ok-Message-clause-comes
returns-in-Ok-Message-clause-comes c =
    head_comes c.args.feeder.now c.args.head.now c.in-Ok-Message.message _ c.requires.side c.requires.between c.told-head
    (rw c.in-Ok-Message.field-0-is at c.in-Ok-Message.ensures.answers)

pub returns-in-Ok-More-clause-comes : goal.returns-in-Ok-More-clause-comes
returns-in-Ok-More-clause-comes c =
    head_wants c.args.feeder.now c.feed.new.self c.args.head.now _ c.requires.side c.in-Ok-More.ensures.side c.requires.between c.told-head
    (rw c.in-Ok-More.field-0-is at c.in-Ok-More.ensures.answers) (rw c.in-Ok-More.field-0-is at c.in-Ok-More.ensures.leaves)
    c.wanted.ensures.least c.wanted.ensures.enough c.wanted.ensures.some

pub returns-in-Err-clause-refused : goal.returns-in-Err-clause-refused
returns-in-Err-clause-refused c =
    (refl, head_no_memory c.args.feeder.now c.args.head.now c.requires.side c.requires.between c.told-head c.in-Err.ensures.wants_memory)
