-- One connection, as a worker took it and as it was kept.
use Rattle.std.specs.Prelude.{◌≡◌, ℕ, List, map}
use Rattle.std.specs.declared.option.Option.{Option}
use Rattle.munge_types.specs.declared.history.Event.{Event}
use Rattle.decode_rules.specs.Terms.{IsMadeOf, WorldFiles, terms_of}
use Rattle.decode_rules.specs.declared.world.World.{World}
use Rattle.session_core.specs.Causes.{LinkCausedBy, LinkFaults, link_faults_of}
use Rattle.session_core.specs.Connection.{Connection, connection_of}
use Rattle.session_core.specs.OnGate.{StandsIn}
use Rattle.session_core.specs.Service.{service_of}
use Rattle.session_core.specs.Things.{input_of}
use Rattle.session_core.specs.WholeRequest.{IsCompleteByLink}
use Rattle.worker_pool.specs.Standing.{Marks}
use Rattle.worker_pool.specs.declared.handled.Handled.{Handled}
use Rattle.worker_pool.specs.declared.post.Queued.{Queued}

-- the connection as it was taken from the queue, and as it was left and kept
pub record Case (L : Type 0) : Type 0 where
  pub taken : Queued L
  pub kept : Handled L

abbrev pub case_of : {L : Type 0} → Queued L → Handled L → Case L
case_of taken kept = record { taken = taken; kept = kept }

abbrev pub takens : {L : Type 0} → List (Case L) → List (Queued L)
takens cases = map (λ c. c.taken) cases

abbrev pub kepts : {L : Type 0} → List (Case L) → List (Handled L)
kepts cases = map (λ c. c.kept) cases

-- the place of its entry, where it made one
abbrev pub entry_of : {L : Type 0} → Case L → Option ℕ
entry_of c = c.kept.served.place

-- how contracts see connections of this type
pub record LinkSight (L : Type 0) : Type 0 where
  pub connection : L → Connection
  pub faults : L → LinkFaults

abbrev pub link_sight : {L : Type 0} → (left : L → Option (List ℕ)) → (ends : L → ℕ)
    → (taken : L → Option (List ℕ)) → (rings read_faults write_faults : L → ℕ) → LinkSight L
link_sight left ends taken rings read_faults write_faults = record {
  connection = λ conn. connection_of (input_of (left conn) (ends conn)) (taken conn) (rings conn);
  faults = λ conn. link_faults_of (read_faults conn) (write_faults conn);
}

-- what a worker serves connections by: how contracts see them, the world, and its seed
pub record Bench (L : Type 0) : Type 0 where
  pub sight : LinkSight L
  pub world : World
  pub seed : List ℕ

abbrev pub bench_of : {L : Type 0} → LinkSight L → World → (seed : List ℕ) → Bench L
bench_of sight world seed = record { sight = sight; world = world; seed = seed }

-- What came of a connection, in a history: from the connection as it was taken to the connection as
-- it is kept, it was served for the caller of its post, by the pass that is told and with the words
-- of the worker's seed. Nothing of this speaks of the worker's clock.
pub record HasHandled {L : Type 0} (bench : Bench L) (history : List Event) (bound : ℕ)
    (c : Case L) : Type 0 where
  pub post_is : c.kept.post ≡ c.taken.waiting.post
  pub turn_is : c.kept.turn ≡ c.taken.waiting.turn
  pub marks : Marks c.kept.pass history c.kept.served.rule c.kept.served.place
  -- for all files that the world is made of
  pub stands : (files : WorldFiles) → IsMadeOf bench.world files
      → StandsIn (service_of (terms_of bench.world c.taken.who files) bench.seed c.kept.pass)
      history bound (bench.sight.connection c.taken.waiting.conn)
      (bench.sight.connection c.kept.conn) c.kept.served c.kept.served.place
  pub caused : LinkCausedBy (bench.sight.faults c.taken.waiting.conn)
      (bench.sight.faults c.kept.conn) c.kept.served.how
  -- what no fault can excuse
  pub complete : IsCompleteByLink (bench.sight.connection c.taken.waiting.conn)
      (bench.sight.faults c.taken.waiting.conn) (bench.sight.faults c.kept.conn) c.kept.served
