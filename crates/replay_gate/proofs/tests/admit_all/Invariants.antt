use Rattle.std.proofs.Common.{◌≡◌, ◌≤◌}
use Rattle.replay_gate.proofs.tests.admit_all.Given as goal

abbrev pub invariant-loop-number : goal.invariant-loop-number
invariant-loop-number g l = (l.pass.gate ≡ l.fn.pass.gate) × (l.pass.share ≡ l.fn.pass.share) × (l.accepted ≤ l.number)
