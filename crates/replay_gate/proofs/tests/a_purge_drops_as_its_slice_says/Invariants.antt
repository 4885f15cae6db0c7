use Rattle.std.proofs.Common.{◌≡◌}
use Rattle.replay_gate.proofs.tests.a_purge_drops_as_its_slice_says.Given as goal

abbrev pub invariant-loop-expiry : goal.invariant-loop-expiry
invariant-loop-expiry g l = (l.pass.gate ≡ l.gate) × (l.pass.share ≡ l.gate.passes)

abbrev pub invariant-loop-slice : goal.invariant-loop-slice
invariant-loop-slice g l = (l.pass.gate ≡ l.gate) × (l.pass.share ≡ l.gate.passes)
