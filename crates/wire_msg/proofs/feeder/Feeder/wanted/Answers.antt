use Rattle.std.proofs.Common.{arith}
use Rattle.wire_msg.proofs.Waiting.{body_enough, body_fewer, head_fewer, head_least, head_not_whole}
use Rattle.wire_msg.proofs.feeder.Feeder.wanted.Goals as goal

pub returns-in-Some-clause-enough : goal.returns-in-Some-clause-enough
returns-in-Some-clause-enough c =
    rw (← c.self.view_is)
    (λ unfinished whole piece. body_enough c.self.inside.side c.self.inside.front c.self.inside.begun c.in-Some.begun c.missing.result
    c.in-Some.is c.self.invariant c.missing.ensures.missing c.missing.ensures.bytes piece)

pub returns-in-None-clause-least : goal.returns-in-None-clause-least
returns-in-None-clause-least c =
    rw (← c.self.view_is)
    (head_least c.self.inside.side c.self.inside.front c.self.inside.begun c.len.result c.in-None.is c.len.ensures)

pub returns-in-None-clause-enough : goal.returns-in-None-clause-enough
returns-in-None-clause-enough c =
    rw (← c.self.view_is)
    (λ unfinished whole. absurd
    (head_not_whole c.self.inside.side c.self.inside.front c.self.inside.begun c.in-None.is c.self.invariant unfinished whole))

pub returns-in-None-clause-some : goal.returns-in-None-clause-some
returns-in-None-clause-some c =
    rw (← c.self.view_is)
    (λ unfinished.
    let fewer = head_fewer c.self.inside.side c.self.inside.front c.self.inside.begun c.in-None.is c.self.invariant unfinished in
    omega arith)

pub returns-in-Some-clause-fewer : goal.returns-in-Some-clause-fewer
returns-in-Some-clause-fewer c =
    rw (← c.self.view_is)
    (λ unfinished whole piece. body_fewer c.self.inside.side c.self.inside.front c.self.inside.begun c.in-Some.begun c.missing.result
    c.in-Some.is c.self.invariant c.missing.ensures.missing c.missing.ensures.bytes piece)

pub returns-in-None-clause-fewer : goal.returns-in-None-clause-fewer
returns-in-None-clause-fewer c =
    rw (← c.self.view_is)
    (λ unfinished whole. absurd
    (head_not_whole c.self.inside.side c.self.inside.front c.self.inside.begun c.in-None.is c.self.invariant unfinished whole))
