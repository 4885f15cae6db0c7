-- What a daemon's pool promises.
use Rattle.std.specs.Prelude.{◌≡◌, ℕ, ◌+◌, ◌<◌, Bool, true, false, List, [], ◌∷◌, ◌++◌, flat_map, length, map, slice_index_or}
use Rattle.std.specs.List.{All, IsDistinct, count_by, slice_get, sum_by}
use Rattle.std.specs.List.Sorted.{IsPermutation}
use Rattle.std.specs.Io.KnownBytes.{Consumes}
use Rattle.std.specs.declared.option.Option.{Option}
use Rattle.std.specs.declared.option.Option.TheVariants.{None, Some}
use Rattle.byte_io.specs.Counts.{Rose}
use Rattle.decode_rules.specs.declared.world.World.{World}
use Rattle.munge_types.specs.History.{accepted}
use Rattle.munge_types.specs.Pair.{pair_eq}
use Rattle.munge_types.specs.StandsFor.{Remembered, Stands}
use Rattle.munge_types.specs.declared.history.Event.{Event}
use Rattle.replay_gate.specs.Makers.{maker}
use Rattle.worker_pool.specs.Accepting.{DoorSight, PostsRan}
use Rattle.worker_pool.specs.Books.{Holds}
use Rattle.worker_pool.specs.Cases.{Case, HasHandled, bench_of, kepts, takens}
use Rattle.worker_pool.specs.Desks.{DeskSight, clock_faults_of, draws, drawn_by, moments_of}
use Rattle.worker_pool.specs.Joining.{OnceEach}
use Rattle.worker_pool.specs.Pool.{IsNotWorn, is_at}
use Rattle.worker_pool.specs.Purging.{ClockSight, IsPartOf, Spends, TickerSight, moments_by}
use Rattle.worker_pool.specs.Single.{IsWornWithin, RoseBy, is_purge}
use Rattle.worker_pool.specs.Tally.{IsTallyOf}
use Rattle.worker_pool.specs.Turns.{IsGiven, is_kept, is_left}
use Rattle.worker_pool.specs.declared.post.Post.{Post}
use Rattle.worker_pool.specs.declared.post.Queued.{Queued}
use Rattle.worker_pool.specs.declared.post.Waiting.{Waiting}
use Rattle.worker_pool.specs.declared.tally.Tally.{Tally}

-- how contracts see what a daemon works with
pub record DaemonSight (D L C T B : Type 0) : Type 1 where
  pub doors : DoorSight D L
  pub desks : DeskSight L C B
  pub clocks : ClockSight C
  pub ticks : TickerSight T

abbrev pub daemon_sight : {D L C T B : Type 0} → DoorSight D L → DeskSight L C B → ClockSight C
    → TickerSight T → DaemonSight D L C T B
daemon_sight doors desks clocks ticks =
    record { doors = doors; desks = desks; clocks = clocks; ticks = ticks }

-- what a daemon is given: the world, its posts; a seed and a clock for each worker; the purger's
-- clock, and its ticker
pub record Given (D C T : Type 0) : Type 0 where
  pub world : World
  pub posts : List (Post D)
  pub seeds : List (List ℕ)
  pub clocks : List C
  pub purge_clock : C
  pub ticker : T

abbrev pub given_of : {D C T : Type 0} → World → List (Post D) → (seeds : List (List ℕ))
    → (clocks : List C) → (purge_clock : C) → T → Given D C T
given_of world posts seeds clocks purge_clock ticker = record {
  world = world;
  posts = posts;
  seeds = seeds;
  clocks = clocks;
  purge_clock = purge_clock;
  ticker = ticker;
}

-- what it hands back of that
pub record HandedBack (D C T B : Type 0) : Type 0 where
  pub posts : List (Post D)
  pub clocks : List C
  pub books : List B
  pub purge_clock : C
  pub ticker : T

abbrev pub handed_back : {D C T B : Type 0} → List (Post D) → (clocks : List C)
    → (books : List B) → (purge_clock : C) → T → HandedBack D C T B
handed_back posts clocks books purge_clock ticker = record {
  posts = posts;
  clocks = clocks;
  books = books;
  purge_clock = purge_clock;
  ticker = ticker;
}

-- what it tells: how often it purged, at how many ticks the purger's clock failed, that the ticker
-- failed, a ticket that was found worn, the tally, how many entries the gate's history has, and
-- what its state remembers
pub record Told : Type 0 where
  pub purges : ℕ
  pub missed : ℕ
  pub ticker_failed : Bool
  pub worn : Option ℕ
  pub tally : Tally
  pub entries : ℕ
  pub state : Remembered

abbrev pub told_of : (purges missed : ℕ) → (ticker_failed : Bool) → (worn : Option ℕ) → Tally
    → (entries : ℕ) → Remembered → Told
told_of purges missed ticker_failed worn tally entries state = record {
  purges = purges;
  missed = missed;
  ticker_failed = ticker_failed;
  worn = worn;
  tally = tally;
  entries = entries;
  state = state;
}

-- a worker: the number of its pass, and its connections in the order in which it served them
pub record Worker (L : Type 0) : Type 0 where
  pub number : ℕ
  pub cases : List (Case L)

abbrev pub taken_by_worker : {L : Type 0} → Worker L → List (Queued L)
taken_by_worker worker = takens worker.cases

-- What a worker did with this seed and this clock, in a history.
pub record WorkerRan {L C B : Type 0} (sight : DeskSight L C B) (world : World)
    (history : List Event) (bound : ℕ) (seed : List ℕ) (clock clock' : C) (book : B)
    (worker : Worker L) : Type 0 where
  -- each of its connections was served, by its pass, for the caller of its post, on this history
  pub each : All (HasHandled (bench_of sight.link world seed) history bound) worker.cases
  pub by_pass : All (λ c. c.kept.pass ≡ worker.number) worker.cases
  -- where the book tells, it holds them, in order
  pub kept : Holds (sight.kept book) (kepts worker.cases)
  -- the words were drawn at the places 0, 6, 12 and so on, modulo 2 ^ 68
  pub drawn : drawn_by worker.cases ≡ draws (length (drawn_by worker.cases))
  -- the moments are the first readings that the clock had, in order
  pub read : Consumes (sight.timing clock).readings (sight.timing clock').readings
      (moments_of worker.cases)
  pub given : RoseBy (length (moments_of worker.cases)) (sight.timing clock).given
      (sight.timing clock').given
  pub clock_failed : RoseBy (clock_faults_of worker.cases) (sight.clock_faults clock)
      (sight.clock_faults clock')

-- What the purger did, whose pass has this number, in a history.
pub record PurgerRan {D L C T B : Type 0} (sight : DaemonSight D L C T B) (given : Given D C T)
    (back : HandedBack D C T B) (told : Told) (number : ℕ) (history : List Event)
    : Type 0 where
  -- every purge is its own, and they are counted
  pub by_purger : All (λ entry. is_purge entry ≡ true → maker entry ≡ number) history
  pub purges_are : told.purges ≡ count_by is_purge history
  -- each Due was a purge, a tick at which the clock failed, or a purge refused as worn
  pub unmade : ℕ
  pub dues : Spends (sight.ticks.due given.ticker) (sight.ticks.due back.ticker)
      (told.purges + told.missed + unmade)
  pub all_made : told.worn ≡ None → unmade ≡ 0
  -- it read its clock once for each purge, made or refused, and their moments are the readings
  pub readings : List ℕ
  pub readings_are : length readings ≡ told.purges + unmade
  pub read : Consumes (sight.clocks.timing given.purge_clock).readings
      (sight.clocks.timing back.purge_clock).readings readings
  pub counted : RoseBy (length readings) (sight.clocks.timing given.purge_clock).given
      (sight.clocks.timing back.purge_clock).given
  pub in_order : IsPartOf (moments_by number history) readings
  pub missed : RoseBy told.missed (sight.clocks.faults given.purge_clock)
      (sight.clocks.faults back.purge_clock)
  -- the ticker is over, or has failed
  pub over : told.ticker_failed ≡ false → sight.ticks.over back.ticker
  pub failed : told.ticker_failed ≡ true
      → Rose (sight.ticks.faults given.ticker) (sight.ticks.faults back.ticker)

-- The daemon's work is done, on one gate with this closing history.
pub record DaemonRan {D L C T B : Type 0} (sight : DaemonSight D L C T B) (given : Given D C T)
    (back : HandedBack D C T B) (left : List (Waiting L)) (told : Told) : Type 0 where
  pub history : List Event
  pub entries_is : told.entries ≡ length history
  pub stands : Stands told.state history
  -- no pair was accepted twice
  pub once : IsDistinct pair_eq (accepted history)
  -- what became of the posts, of which each acceptor has put these
  pub puts : List (List (Queued L))
  pub posts : PostsRan sight.doors given.posts back.posts puts
  -- the purger's number, and the workers, each with a number of its own
  pub purger : ℕ
  pub workers : List (Worker L)
  pub numbers : OnceEach (purger ∷ map (λ w. w.number) workers)
  pub seeds : length workers ≡ length given.seeds
  pub clocks : length back.clocks ≡ length given.seeds
  pub books : length back.books ≡ length given.seeds
  pub worked : (n : ℕ) (w : Worker L) (seed : List ℕ) (clock : C) (book : B)
      → n < length workers
      → WorkerRan sight.desks given.world history told.entries
      (slice_index_or given.seeds n seed) (slice_index_or given.clocks n clock)
      (slice_index_or back.clocks n clock) (slice_index_or back.books n book)
      (slice_index_or workers n w)
  -- what was put is, in some order, what the workers took and what is left
  pub rest : List (Queued L)
  pub left_are : left ≡ map (λ q. q.waiting) rest
  pub same : IsPermutation (flat_map (λ l. l) puts) (flat_map taken_by_worker workers ++ rest)
  -- so each connection that a telling door gave was kept once, or is left once, with its post and
  -- its turn
  pub each_once : (p k : ℕ) (post : Post D) (conns after : List L) → p < length given.posts
      → sight.doors.coming (slice_index_or given.posts p post).door ≡ Some conns
      → sight.doors.coming (slice_index_or back.posts p post).door ≡ Some after
      → k + length after < length conns
      → sum_by (λ w. count_by (λ c. is_kept p k c.kept) w.cases) workers
      + count_by (is_left p k) left ≡ 1
  -- and nothing else was, or is
  pub nothing_else : All (IsGiven sight.doors given.posts back.posts)
      (flat_map taken_by_worker workers ++ rest)
  -- each entry that is no purge is just one connection's
  pub made : (place : ℕ) (entry : Event) → slice_get history place ≡ Some entry
      → is_purge entry ≡ false
      → sum_by (λ w. count_by (λ c. is_at place c.kept.served.place) w.cases) workers ≡ 1
  pub purged : PurgerRan sight given back told purger history
  -- where no call found the gate worn, no connection did, and nothing is left
  pub worn_is : IsWornWithin told.entries told.worn
  pub none_worn : told.worn ≡ None
      → All (λ w. All (λ c. IsNotWorn c.kept.served.how) w.cases) workers
  pub left_empty : told.worn ≡ None → rest ≡ []
  pub tallied : IsTallyOf history told.tally
