use Rattle.std.proofs.Common.{◌≡◌, [], Some, length}
use Rattle.std.specs.List.{All}
use Rattle.worker_pool.proofs.tests.many.books.Given as goal

-- those made so far are empty
abbrev pub invariant-books : goal.invariant-books
invariant-books l = record {
  count : length l.books.items ≡ l.counter;
  empty : All (λ book. book ≡ Some []) l.books.items;
}
