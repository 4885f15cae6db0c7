use Rattle.std.proofs.Common.{◌≡◌, ◌<◌, ◌≤◌, length, take, arith, subst, sym}
use Rattle.std.proofs.lemmas.List.{length-take}
use Rattle.std.proofs.lemmas.Result.{IfErr-weaker, IfOk-weaker}
use Rattle.wire_msg.specs.Frame.{IsUnfinished}
use Rattle.munge_tools.proofs.ReplyLemmas.{read_ended, read_failed, refused, took}
use Rattle.munge_tools.specs.ReplyRead.{input_of}
use Rattle.munge_tools.proofs.reply.read_piece.Goals as goal

pub returns-in-Ok-eq0-clause-stopped : goal.returns-in-Ok-eq0-clause-stopped
returns-in-Ok-eq0-clause-stopped g c =
    let size = simp length-take at c.read.auto.into in
    let wanted : 1 ≤ c.wanted.result =
    c.wanted.ensures.some (subst (λ side. IsUnfinished side c.args.feeder.now.unfinished) (sym c.requires.side) c.requires.unfinished) in
    let some : 0 < length c.read.new.into = omega (arith, size, wanted, c.min-size.ensures, c.requires.room) in
    let zero : c.in-Ok-eq0.field-0 ≡ 0 = omega arith in
    read_ended c.args.feeder.now.unfinished c.read.new.into c.in-Ok-eq0.field-0
    (input_of (g.I.Source.left c.args.input.now) (g.I.Source.ends c.args.input.now))
    (input_of (g.I.Source.left c.read.new.self) (g.I.Source.ends c.read.new.self))
    zero some c.in-Ok-eq0.ensures.consumed c.in-Ok-eq0.ensures.ended c.requires.unfinished

pub returns-in-Ok-clause-took : goal.returns-in-Ok-clause-took
returns-in-Ok-clause-took g c =
    let piece = take c.in-Ok.count c.read.new.into in
    let some : 0 < c.in-Ok.count = omega arith in
    let inside : c.in-Ok.count ≤ length c.read.new.into = c.in-Ok.ensures.within in
    let size : 1 ≤ length piece = simp length-take (omega (arith, some, inside)) in
    IfOk-weaker c.take_piece.result _ _
    (λ step came. took c.args.feeder.now c.take_piece.new.feeder piece
    (input_of (g.I.Source.left c.args.input.now) (g.I.Source.ends c.args.input.now))
    (input_of (g.I.Source.left c.read.new.self) (g.I.Source.ends c.read.new.self)) step
    c.in-Ok.ensures.consumed.0 (c.in-Ok.ensures.open some) size came)
    c.take_piece.ensures.came

pub returns-in-Ok-clause-stopped : goal.returns-in-Ok-clause-stopped
returns-in-Ok-clause-stopped g c =
    let some : 0 < c.in-Ok.count = omega arith in
    IfErr-weaker c.take_piece.result _ _
    (λ why bad. refused c.args.feeder.now (take c.in-Ok.count c.read.new.into)
    (input_of (g.I.Source.left c.args.input.now) (g.I.Source.ends c.args.input.now))
    (input_of (g.I.Source.left c.read.new.self) (g.I.Source.ends c.read.new.self)) why
    c.in-Ok.ensures.consumed.0 (c.in-Ok.ensures.open some) bad)
    c.take_piece.ensures.refused

pub returns-in-Err-clause-stopped : goal.returns-in-Err-clause-stopped
returns-in-Err-clause-stopped g c =
    read_failed c.args.feeder.now.unfinished
    (input_of (g.I.Source.left c.args.input.now) (g.I.Source.ends c.args.input.now))
    (input_of (g.I.Source.left c.read.new.self) (g.I.Source.ends c.read.new.self))
    c.in-Err.ensures.consumed c.in-Err.ensures.open c.requires.unfinished
