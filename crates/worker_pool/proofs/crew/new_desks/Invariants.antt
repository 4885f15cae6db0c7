use Rattle.std.proofs.Common.{◌≡◌, ◌≤◌, ◌+◌, ◌++◌, [], ◌∷◌, length, map, reverse, vec_len, vec_capacity}
use Rattle.std.specs.List.{All}
use Rattle.worker_pool.specs.Books.{Holds}
use Rattle.worker_pool.specs.Cases.{link_sight}
use Rattle.worker_pool.specs.Desks.{IsNewDesk, desk_sight}
use Rattle.worker_pool.proofs.crew.new_desks.Given as goal

abbrev pub invariant-loop-seed : goal.invariant-loop-seed
invariant-loop-seed g l = record {
  of_gate : l.home.gate ≡ l.gate;
  alone : l.home.numbers ≡ l.home.number ∷ [];
  spare : l.home.spare ≡ length l.seeds.items;
  share : l.home.share ≡ l.home.spare + 1;
  seen : l.home.seen ≡ [];
  many_clocks : length l.clocks.items ≡ length l.seeds.items;
  many_books : length l.books.items ≡ length l.seeds.items;
  empty : All (λ book. Holds (g.B.Book.kept book) []) l.books.items;
  room : vec_len l.desks + vec_len l.seeds ≤ vec_capacity l.desks;
  desks : All (IsNewDesk (desk_sight (link_sight g.L.Source.left g.L.Source.ends g.L.Sink.taken g.L.Link.rings g.L.Source.read_faults g.L.Sink.write_faults)
      g.C.Clock.readings g.C.Clock.last_reading g.C.Clock.given g.C.Clock.clock_faults g.B.Book.kept) l.gate) l.desks.items;
  clocks : l.clocks.items ++ map (λ d. d.clock) (reverse l.desks.items) ≡ l.fn.clocks.items;
  seeds : l.seeds.items ++ map (λ d. d.dice.seed) (reverse l.desks.items) ≡ l.fn.seeds.items;
}

abbrev pub decreases-loop-seed : goal.decreases-loop-seed
decreases-loop-seed g l = vec_len l.seeds
