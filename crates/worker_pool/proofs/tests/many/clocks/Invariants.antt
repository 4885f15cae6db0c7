use Rattle.std.proofs.Common.{◌≡◌, length}
use Rattle.worker_pool.proofs.tests.many.clocks.Given as goal

abbrev pub invariant-clocks : goal.invariant-clocks
invariant-clocks l = length l.clocks.items ≡ l.counter
