-- What a worker of a daemon has done.
use Rattle.std.specs.Prelude.{◌≡◌, ℕ, ◌*◌, ◌%◌, ◌^◌, Bool, true, false, List, [], ◌∷◌, length, map}
use Rattle.std.specs.List.{All, count_by, range_with_len}
use Rattle.std.specs.Io.KnownBytes.{Consumes}
use Rattle.std.specs.declared.option.Option.{Option}
use Rattle.std.specs.declared.option.Option.TheVariants.{None, Some}
use Rattle.munge_types.specs.declared.history.Event.{Event}
use Rattle.decode_rules.specs.Terms.{IsMadeOf, WorldFiles, terms_of}
use Rattle.decode_rules.specs.declared.world.World.{World}
use Rattle.replay_gate.specs.PassState.{GateId}
use Rattle.session_core.specs.Causes.{ClockCausedBy, LinkCausedBy}
use Rattle.session_core.specs.Connection.{TakesReading, Timing, timing_of}
use Rattle.session_core.specs.OnGate.{Draws, PassGoesOn, Serves}
use Rattle.session_core.specs.Service.{service_of}
use Rattle.session_core.specs.WholeRequest.{IsCompleteByLink}
use Rattle.session_core.specs.declared.served.ServeEnd.{ServeEnd}
use Rattle.session_core.specs.declared.served.ServeEnd.TheVariants as how
use Rattle.worker_pool.specs.Account.{Account}
use Rattle.worker_pool.specs.Books.{Appended, Holds}
use Rattle.worker_pool.specs.Cases.{Bench, Case, HasHandled, LinkSight, bench_of, entry_of, kepts}
use Rattle.worker_pool.specs.Pool.{IsNotWorn}
use Rattle.worker_pool.specs.Single.{AreNoPurges, IsSingle, IsWornWithin, RoseBy}
use Rattle.worker_pool.specs.Tallying.{Counted, CountedOne}
use Rattle.worker_pool.specs.Work.{IsMade}
use Rattle.worker_pool.specs.declared.desk.Desk.{Desk}
use Rattle.worker_pool.specs.declared.handled.Handled.{Handled}
use Rattle.worker_pool.specs.declared.post.Queued.{Queued}

-- before what else was told in order, where this tells one
abbrev pub with_told : (told : Option ℕ) → (others : List ℕ) → List ℕ
with_told None others = others
with_told (Some one) others = one ∷ others

-- the moments that the requests were answered at, in order
abbrev pub moments_of : {L : Type 0} → List (Case L) → List ℕ
moments_of [] = []
moments_of (c ∷ cases) = with_told c.kept.served.moment (moments_of cases)

-- the places of the first words that were drawn, in order
abbrev pub drawn_by : {L : Type 0} → List (Case L) → List ℕ
drawn_by [] = []
drawn_by (c ∷ cases) = with_told c.kept.served.drawn (drawn_by cases)

-- the places of so many draws: each takes six words of a stream that repeats after 2 ^ 68
abbrev pub draws : (count : ℕ) → List ℕ
draws count = map (λ k. (6 * k) % 2 ^ 68) (range_with_len 0 count)

-- the clock gave no reading
abbrev pub is_clock_fault : ServeEnd → Bool
is_clock_fault how.ClockFault = true
is_clock_fault how.Done = false
is_clock_fault how.Stopped = false
is_clock_fault how.Quiet = false
is_clock_fault how.ReadFault = false
is_clock_fault how.WriteFault = false
is_clock_fault how.Malformed = false
is_clock_fault how.NoMemory = false
is_clock_fault (how.Worn ticket) = false

-- at how many of them the clock gave no reading
abbrev pub clock_faults_of : {L : Type 0} → List (Case L) → ℕ
clock_faults_of cases = count_by (λ c. is_clock_fault c.kept.served.how) cases

-- the ticket that the gate was found worn at, if it was
abbrev pub worn_of : ServeEnd → Option ℕ
worn_of (how.Worn ticket) = Some ticket
worn_of how.Done = None
worn_of how.Stopped = None
worn_of how.Quiet = None
worn_of how.ReadFault = None
worn_of how.WriteFault = None
worn_of how.ClockFault = None
worn_of how.Malformed = None
worn_of how.NoMemory = None

-- the later one of two, where there is one
abbrev pub later_of : (old found : Option ℕ) → Option ℕ
later_of old None = old
later_of old (Some ticket) = Some ticket

-- how contracts see clocks and books of these types
pub record DeskSight (L C B : Type 0) : Type 0 where
  pub link : LinkSight L
  pub timing : C → Timing
  pub clock_faults : C → ℕ
  pub kept : B → Option (List (Handled L))

abbrev pub desk_sight : {L C B : Type 0} → LinkSight L → (readings : C → Option (List ℕ))
    → (last given clock_faults : C → ℕ) → (kept : B → Option (List (Handled L)))
    → DeskSight L C B
desk_sight link readings last given clock_faults kept = record {
  link = link;
  timing = λ clock. timing_of (readings clock) (last clock) (given clock);
  clock_faults = clock_faults;
  kept = kept;
}

-- a worker that has not begun
pub record IsNewDesk {L C B : Type 0} (sight : DeskSight L C B) (gate : GateId) (desk : Desk C B)
    : Type 0 where
  pub single : IsSingle gate desk.pass
  pub seen : desk.pass.seen ≡ []
  pub none_drawn : desk.dice.place ≡ 0
  pub empty : Holds (sight.kept desk.book) []
  pub counts : Counted {L = L} [] desk.tally
  pub not_worn : desk.worn ≡ None

-- A worker has served one connection more, and handed it to its book.
pub record Handles {L C B : Type 0} (sight : DeskSight L C B) (world : World) (old : Desk C B)
    (taken : Queued L) (new : Desk C B) : Type 0 where
  pub kept : Handled L
  pub post_is : kept.post ≡ taken.waiting.post
  pub turn_is : kept.turn ≡ taken.waiting.turn
  pub pass_is : kept.pass ≡ old.pass.number
  pub pass : PassGoesOn old.pass new.pass
  -- for all files that the world is made of
  pub serves : (files : WorldFiles) → IsMadeOf world files
      → Serves (service_of (terms_of world taken.who files) old.dice.seed old.pass.number)
      old.pass new.pass (sight.link.connection taken.waiting.conn)
      (sight.link.connection kept.conn) kept.served kept.served.place
  pub caused : LinkCausedBy (sight.link.faults taken.waiting.conn) (sight.link.faults kept.conn)
      kept.served.how
  pub complete : IsCompleteByLink (sight.link.connection taken.waiting.conn)
      (sight.link.faults taken.waiting.conn) (sight.link.faults kept.conn) kept.served
  pub reading : TakesReading (sight.timing old.clock) (sight.timing new.clock) kept.served.moment
  pub clock_caused : ClockCausedBy (sight.clock_faults old.clock) (sight.clock_faults new.clock)
      kept.served.how
  pub draws : Draws old.dice new.dice kept.served.drawn
  pub appended : Appended (sight.kept old.book) kept (sight.kept new.book)
  pub counted : CountedOne kept.served.place kept.served.rule old.tally new.tally
  pub worn_is : new.worn ≡ later_of old.worn (worn_of kept.served.how)

-- What a worker's connections say of a history, by a pass of this number: each entry of it is just
-- one connection's, and none is a purge.
pub record Works {L : Type 0} (bench : Bench L) (number : ℕ) (history : List Event) (bound : ℕ)
    (cases : List (Case L)) : Type 0 where
  pub account : Account entry_of (HasHandled bench) number history bound cases
  pub no_purge : AreNoPurges number history

-- What a worker has done since it began.
pub record HasWorked {L C B : Type 0} (sight : DeskSight L C B) (world : World)
    (first now : Desk C B) (cases : List (Case L)) : Type 0 where
  pub pass : PassGoesOn first.pass now.pass
  -- where the world is made of some files
  pub works : IsMade world → Works (bench_of sight.link world first.dice.seed) now.pass.number
      now.pass.seen now.pass.highest cases
  pub by_pass : All (λ c. c.kept.pass ≡ first.pass.number) cases
  -- where the book tells, it holds them, in order
  pub kept : Holds (sight.kept now.book) (kepts cases)
  pub seed_is : now.dice.seed ≡ first.dice.seed
  pub place_is : now.dice.place ≡ (6 * length (drawn_by cases)) % 2 ^ 68
  pub drawn : drawn_by cases ≡ draws (length (drawn_by cases))
  -- the moments are the first readings that the clock had
  pub read : Consumes (sight.timing first.clock).readings (sight.timing now.clock).readings
      (moments_of cases)
  pub given : RoseBy (length (moments_of cases)) (sight.timing first.clock).given
      (sight.timing now.clock).given
  pub clock_failed : RoseBy (clock_faults_of cases) (sight.clock_faults first.clock)
      (sight.clock_faults now.clock)
  pub counted : Counted cases now.tally
  -- where the world is made of some files
  pub worn_is : IsMade world → IsWornWithin now.pass.highest now.worn
  pub none_worn : now.worn ≡ None → All (λ c. IsNotWorn c.kept.served.how) cases
