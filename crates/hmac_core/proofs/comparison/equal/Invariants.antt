use Rattle.hmac_core.proofs.Differences.{Gathers}
use Rattle.hmac_core.proofs.comparison.equal.Given as goal

abbrev pub invariant-loop-i : goal.invariant-loop-i
invariant-loop-i l = Gathers l.difference l.i l.mac l.bytes
