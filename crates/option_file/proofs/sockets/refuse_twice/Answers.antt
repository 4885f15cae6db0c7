use Rattle.std.proofs.Common.{◌≡◌, true, false, take, ap, sym, ◌∙◌}
use Rattle.option_file.specs.Sockets.{has_path}
use Rattle.option_file.specs.declared.sockets.SocketLine.{SocketLine}
use Rattle.option_file.proofs.Twice.{first_twice-next, refusal-twice}
use Rattle.option_file.proofs.sockets.refuse_twice.Goals as goal

pub returns-then-has_path : goal.returns-then-has_path
returns-then-has_path c =
    λ _.
    let found : has_path (take c.loop-at.at c.args.lines.now) c.index-lines-at.result.path ≡ true = ap (λ (line : SocketLine). has_path (take c.loop-at.at c.args.lines.now) line.path) c.index-lines-at.is ∙ sym c.has_path.ensures ∙ c.if-has_path.true in
    let next = first_twice-next c.args.lines.now c.loop-at.at c.index-lines-at.result c.index-lines-at.is c.loop-at-test.true in
    refusal-twice c.args.lines.now c.loop-at.at (c.loop-at.invariant ∙ rw found at next)

pub loop-at-preserved : goal.loop-at-preserved
loop-at-preserved c =
    let none : has_path (take c.loop-at.at c.args.lines.now) c.index-lines-at.result.path ≡ false = ap (λ (line : SocketLine). has_path (take c.loop-at.at c.args.lines.now) line.path) c.index-lines-at.is ∙ sym c.has_path.ensures ∙ c.if-has_path.false in
    let next = first_twice-next c.args.lines.now c.loop-at.at c.index-lines-at.result c.index-lines-at.is c.loop-at-test.true in
    c.loop-at.invariant ∙ rw none at next
