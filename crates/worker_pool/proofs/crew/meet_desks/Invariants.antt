use Rattle.std.proofs.Common.{◌≡◌, ◌≤◌, ◌+◌, ◌++◌, map, reverse, vec_len, vec_capacity}
use Rattle.worker_pool.specs.Meeting.{latest}
use Rattle.worker_pool.proofs.Meetings.{Counting, Gathering}
use Rattle.worker_pool.proofs.crew.meet_desks.Given as goal

abbrev pub invariant-loop-desk : goal.invariant-loop-desk
invariant-loop-desk g l = record {
  gathering : Gathering l.gate l.fn.home l.fn.desks.items l.desks.items l.all;
  clocks : l.clocks.items ++ map (λ d. d.clock) (reverse l.desks.items) ≡ map (λ d. d.clock) (reverse l.fn.desks.items);
  books : l.books.items ++ map (λ d. d.book) (reverse l.desks.items) ≡ map (λ d. d.book) (reverse l.fn.desks.items);
  room_clocks : vec_len l.clocks + vec_len l.desks ≤ vec_capacity l.clocks;
  room_books : vec_len l.books + vec_len l.desks ≤ vec_capacity l.books;
  counting : Counting l.fn.desks.items l.desks.items l.tally;
  worn : latest l.worn (map (λ d. d.worn) (reverse l.desks.items)) ≡ latest l.fn.worn (map (λ d. d.worn) (reverse l.fn.desks.items));
}

abbrev pub decreases-loop-desk : goal.decreases-loop-desk
decreases-loop-desk g l = goal.left-loop-desk g l
