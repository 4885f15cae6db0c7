use Rattle.std.proofs.Common.{◌+◌, sym}
use Rattle.std.proofs.lemmas.List.{take_rest}
use Rattle.group_map.proofs.PieceLemmas.{cut-some, cut-none}
use Rattle.group_map.proofs.cut.cut.Goals as goal

pub returns-in_err-at-clause-pieces : goal.returns-in_err-at-clause-pieces
returns-in_err-at-clause-pieces c =
    rw c.from_residual.ensures (cut-none c.args.mark c.args.text.now (sym c.in_err-at.ensures))

pub returns-clause-pieces : goal.returns-clause-pieces
returns-clause-pieces c =
    rw (take_rest c.args.text.now (c.in_ok-at.at + 1))
    (cut-some c.args.mark c.args.text.now c.in_ok-at.at (sym c.in_ok-at.ensures))
