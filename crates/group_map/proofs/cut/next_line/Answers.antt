use Rattle.std.proofs.Common.{arith}
use Rattle.group_map.proofs.PieceLemmas.{lines-none, lines-cut, lines-whole}
use Rattle.group_map.proofs.cut.next_line.Goals as goal

pub returns-then-is_empty-clause-lines : goal.returns-then-is_empty-clause-lines
returns-then-is_empty-clause-lines c = lines-none c.args.text.now (grind arith)

pub returns-in-Some-clause-lines : goal.returns-in-Some-clause-lines
returns-in-Some-clause-lines c = lines-cut _ _ _ c.in-Some.ensures.pieces

pub returns-in-None-clause-lines : goal.returns-in-None-clause-lines
returns-in-None-clause-lines c = lines-whole c.args.text.now (grind arith) c.in-None.ensures.pieces
