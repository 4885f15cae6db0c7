use Rattle.std.proofs.Common.{◌≡◌, length}
use Rattle.worker_pool.proofs.tests.many.posts.Given as goal

abbrev pub invariant-posts : goal.invariant-posts
invariant-posts l = length l.posts.items ≡ l.counter
