use Rattle.std.proofs.Common.{◌-◌, length}
use Rattle.cbc_mode.proofs.Pieces.{IsWrittenUpTo}
use Rattle.cbc_mode.proofs.cbc_out.CbcOut.write_blocks.Given as goal

abbrev pub invariant-pieces : goal.invariant-pieces
invariant-pieces g l =
    IsWrittenUpTo l.initial.self l.self l.part l.at (g.P.Put.taken l.initial.to) (g.P.Put.taken l.to)
    (g.P.Put.base l.initial.to) (g.P.Put.base l.to) (g.P.Put.spare l.initial.to) (g.P.Put.spare l.to)

abbrev pub decreases-pieces : goal.decreases-pieces
decreases-pieces g l = length l.part - l.at
