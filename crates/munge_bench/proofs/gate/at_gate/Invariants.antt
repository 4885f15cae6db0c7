use Rattle.std.proofs.Common.{◌≡◌}
use Rattle.munge_bench.proofs.gate.at_gate.Given as goal

abbrev pub invariant-loop-number : goal.invariant-loop-number
invariant-loop-number g l = l.pass.gate ≡ l.shared
