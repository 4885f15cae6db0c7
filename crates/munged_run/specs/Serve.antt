-- What the command `serve` comes to.
use Rattle.std.specs.Prelude.{◌≡◌, ◌≢◌, ℕ, Bool, true, false, codes, List, [], ◌∷◌, ◌++◌, length}
use Rattle.std.specs.declared.option.Option.{Option}
use Rattle.std.specs.declared.option.Option.TheVariants.{None, Some}
use Rattle.decode_rules.specs.declared.world.World.{World}
use Rattle.option_file.specs.Configuration.{Configuration}
use Rattle.worker_pool.specs.Daemon.{DaemonRan, DaemonSight, Told, given_of, handed_back}
use Rattle.worker_pool.specs.declared.post.Post.{Post}
use Rattle.worker_pool.specs.declared.post.Waiting.{Waiting}
use Rattle.worker_pool.specs.declared.tally.Tally.{Tally}
use Rattle.munged_run.specs.Check.{GivesNoOptions, HoldsOptions}
use Rattle.munged_files.specs.Ending.{Ending}
use Rattle.munged_files.specs.Ending as ending
use Rattle.munged_files.specs.Line.{CutShort}
use Rattle.munged_run.specs.Output.{NothingServed, Output, Failed, Printed}
use Rattle.munged_run.specs.ServeClocks.{ClocksTaken}
use Rattle.munged_run.specs.ServeDoors.{PostsOpened, Unopened, has_failed}
use Rattle.munged_run.specs.ServeFiles.{ReadsWorld, RefusesWorld}
use Rattle.munged_run.specs.Totals.{totals_line}

-- what is printed as soon as every door is open
abbrev pub ready : List ℕ
ready = codes "ready\n"

-- what the daemon goes by: the readings of the clocks still to come, where they are told, and the
-- ticker
pub record Times (T : Type 0) : Type 0 where
  pub clocks : Option (List (List ℕ))
  pub ticker : T

abbrev pub times_of : {T : Type 0} → (clocks : Option (List (List ℕ))) → T → Times T
times_of clocks ticker = record { clocks = clocks; ticker = ticker }

-- and the doors that the hall still has, with their paths, where it tells them
pub record Outside (D T : Type 0) : Type 0 where
  pub doors : Option (List (List ℕ × D))
  pub times : Times T

abbrev pub outside_of : {D T : Type 0} → (doors : Option (List (List ℕ × D))) → Times T
    → Outside D T
outside_of doors times = record { doors = doors; times = times }

-- What the daemon's pool left, where one served.
pub record Pool (D L C B : Type 0) : Type 0 where
  pub posts : List (Post D)
  pub clocks : List C
  pub purge_clock : C
  pub books : List B
  pub left : List (Waiting L)
  pub told : Told

abbrev pub pool_of : {D L C B : Type 0} → List (Post D) → (clocks : List C) → (purge_clock : C)
    → (books : List B) → List (Waiting L) → Told → Pool D L C B
pool_of posts clocks purge_clock books left told = record {
  posts = posts;
  clocks = clocks;
  purge_clock = purge_clock;
  books = books;
  left = left;
  told = told;
}

-- The tally is that of the closing history, and `kept` says how many pairs its state keeps. Where
-- nothing was served the history is empty.
abbrev pub HasTotals : {D L C B : Type 0} → Option (Pool D L C B) → Tally → (kept : ℕ) → Type 0
HasTotals None tally kept = NothingServed tally kept
HasTotals (Some pool) tally kept =
    (tally ≡ pool.told.tally) × (kept ≡ length pool.told.state.pairs)

-- How the program ends once the doors were served, by the first of these that applies: a door
-- failed; the ticker failed; a call found the gate worn; the totals were not printed.
abbrev pub after_serving : (door_failed ticker_failed : Bool) → (worn : Option ℕ)
    → (printed : Bool) → Ending
after_serving true ticker_failed worn printed = ending.socket_failed
after_serving false true worn printed = ending.ticker_failed
after_serving false false (Some ticket) printed = ending.worn ticket
after_serving false false None false = ending.output_failed
after_serving false false None true = ending.done

-- the end is not that of a file
abbrev pub NamesNoFile : Ending → Type 0
NamesNoFile how = (name : List ℕ) → how ≢ ending.unread name

-- a write failed when a front of this had been printed, and nothing else was
pub record Unprinted (out : Output) (text : List ℕ) : Type 0 where
  pub failed : Failed out
  pub cut : CutShort out.before.taken out.after.taken text

-- whether this text was printed, or a write failed
abbrev pub SaidSo : (printed : Bool) → Output → (text : List ℕ) → Type 0
SaidSo true out text = Printed out text
SaidSo false out text = Unprinted out text

-- The posts were served on one gate, under this world, by a worker for each of these seeds.
pub record Served {D L C T B : Type 0} (sight : DaemonSight D L C T B) (world : World)
    (seeds : List (List ℕ)) (posts : List (Post D)) (before after : Times T)
    (pool : Pool D L C B) : Type 0 where
  -- a clock for each worker, in order, and then the purger's
  pub clocks : List C
  pub as_many : length clocks ≡ length seeds
  pub purge_clock : C
  pub taken : ClocksTaken sight.clocks (clocks ++ purge_clock ∷ []) before.clocks after.clocks
  -- what the pool promises, with its one closing history
  pub ran : DaemonRan sight (given_of world posts seeds clocks purge_clock before.ticker)
      (handed_back pool.posts pool.clocks pool.books pool.purge_clock after.ticker)
      pool.left pool.told

-- Whether this was printed, and how the program ends then, by what failed before.
pub record SaidTotals (door_failed ticker_failed : Bool) (worn : Option ℕ) (text : List ℕ)
    (out : Output) (how : Ending) : Type 0 where
  pub printed : Bool
  pub output : SaidSo printed out text
  pub how_is : how ≡ after_serving door_failed ticker_failed worn printed

-- What comes of the doors once all are open.
pub data ServedAt {D L C T B : Type 0} (sight : DaemonSight D L C T B) (world : World)
    (seeds : List (List ℕ)) (posts : List (Post D)) (out : Output) (before after : Times T)
    (served : Option (Pool D L C B)) (how : Ending) : Type 0 where
  -- less than `ready` was printed
  unready : Unprinted out ready → after ≡ before → served ≡ None → how ≡ ending.output_failed
      → ServedAt sight world seeds posts out before after served how
  -- there was no memory before the first accept
  unserved : Printed out ready → after.ticker ≡ before.ticker → served ≡ None
      → how ≡ ending.no_memory → ServedAt sight world seeds posts out before after served how
  -- they were served
  served : (pool : Pool D L C B) → served ≡ Some pool
      → Served sight world seeds posts before after pool
      → SaidTotals (has_failed pool.posts) pool.told.ticker_failed pool.told.worn
      (ready ++ totals_line pool.told.tally (length pool.told.state.pairs)) out how
      → ServedAt sight world seeds posts out before after served how

-- What comes of the sockets of an option file, a door for each.
pub data ServedOver {D L C T B : Type 0} (sight : DaemonSight D L C T B) (said : Configuration)
    (world : World) (seeds : List (List ℕ)) (silent : Type 0) (out : Output)
    (before after : Outside D T) (served : Option (Pool D L C B)) (how : Ending) : Type 0 where
  -- one could not be opened
  unopened : silent → after.times ≡ before.times
      → Unopened sight.doors.faults said.sockets before.doors after.doors how → served ≡ None
      → ServedOver sight said world seeds silent out before after served how
  -- all were
  opened : (posts : List (Post D))
      → PostsOpened sight.doors.faults said.sockets posts before.doors after.doors
      → ServedAt sight world seeds posts out before.times after.times served how
      → ServedOver sight said world seeds silent out before after served how

-- What comes of an option file that gave these options.
pub data ServedBy {D L C T B : Type 0} (sight : DaemonSight D L C T B)
    (files : Option (List (List ℕ × List ℕ))) (said : Configuration) (silent : Type 0)
    (out : Output) (before after : Outside D T) (served : Option (Pool D L C B)) (how : Ending)
    : Type 0 where
  -- a file that it names is refused
  refused_file : silent → after ≡ before → RefusesWorld files said how → served ≡ None
      → ServedBy sight files said silent out before after served how
  -- none is
  by_files : (world : World) → (seeds : List (List ℕ)) → ReadsWorld files said world seeds
      → ServedOver sight said world seeds silent out before after served how
      → ServedBy sight files said silent out before after served how

-- What `serve` comes to by the option file of that path.
pub data ServeCame {D L C T B : Type 0} (sight : DaemonSight D L C T B)
    (files : Option (List (List ℕ × List ℕ))) (config : List ℕ) (silent : Type 0)
    (out : Output) (before after : Outside D T) (served : Option (Pool D L C B)) (how : Ending)
    : Type 0 where
  -- it gave no options
  no_options : silent → after ≡ before → GivesNoOptions files config how → served ≡ None
      → ServeCame sight files config silent out before after served how
  -- it gave some
  by_options : (said : Configuration) → HoldsOptions files config said
      → ServedBy sight files said silent out before after served how
      → ServeCame sight files config silent out before after served how

-- What `serve` comes to by the option file of that path, with these totals.
abbrev pub Serves : {D L C T B : Type 0} → DaemonSight D L C T B
    → (files : Option (List (List ℕ × List ℕ))) → (silent : Type 0) → Output
    → (before after : Outside D T) → (pool : Option (Pool D L C B)) → Tally → (kept : ℕ)
    → (config : List ℕ) → (how : Ending) → Type 0
Serves sight files silent out before after pool tally kept config how =
    ServeCame sight files config silent out before after pool how × HasTotals pool tally kept
