use Rattle.std.proofs.Common.{◌≡◌, ◌≤◌, [], length, vec_capacity}
use Rattle.std.specs.List.{All}
use Rattle.worker_pool.specs.Books.{Holds}
use Rattle.munged_run.proofs.serve_clocks.take_books.Given as goal

-- the books so far
abbrev pub invariant-books : goal.invariant-books
invariant-books g l = record {
  empty : All (λ book. Holds (g.B.One.Book.kept book) []) l.taken.items;
  count : length l.taken.items ≡ l.counter;
  room : l.count ≤ vec_capacity l.taken;
}
