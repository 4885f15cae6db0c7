-- What workers have done, as the history grows.
use Rattle.std.proofs.Common.{◌≡◌, ℕ, ◌≤◌, List, [], ◌∷◌, ◌++◌, Option, Some, None, sym, ap, ◌∙◌, refl, subst, arith, append_assoc}
use Rattle.std.proofs.lemmas.List.{append-nil}
use Rattle.std.specs.List.{slice_get}
use Rattle.munge_types.specs.declared.history.Event.{Event}
use Rattle.decode_rules.specs.Terms.{terms_of}
use Rattle.decode_rules.specs.declared.world.World.{World}
use Rattle.replay_gate.specs.GoesOn.{GoesOn}
use Rattle.replay_gate.specs.PassState.{PassState}
use Rattle.session_core.specs.Connection.{Connection}
use Rattle.session_core.specs.OnGate.{LeavesPass, Serves, StandsIn, WornWithin}
use Rattle.session_core.specs.Service.{Service, service_of}
use Rattle.session_core.specs.declared.served.ServeEnd.{ServeEnd}
use Rattle.session_core.specs.declared.served.ServeEnd.TheVariants as how
use Rattle.session_core.specs.declared.served.Served.{Served}
use Rattle.worker_pool.specs.Entering.{Moves}
use Rattle.worker_pool.specs.Lanes.{IsTaskOf}
use Rattle.worker_pool.specs.Serving.{IsServedJob}
use Rattle.worker_pool.specs.Standing.{HasServed, Marks, Worked, place_of}
use Rattle.worker_pool.specs.Work.{IsMade, Sight, Work, seed_of, work_of}
use Rattle.worker_pool.specs.declared.job.Done.{Done}
use Rattle.worker_pool.specs.declared.job.Job.{Job}
use Rattle.worker_pool.specs.declared.lane.Task.{Task}
use Rattle.worker_pool.proofs.Account.{account_none, account_longer, account_more}
use Rattle.worker_pool.proofs.Tells.{served_told}

-- ---- one connection, in a longer history and within a higher bound

pub worn_higher : (bound higher : ℕ) (end : ServeEnd) → bound ≤ higher → WornWithin bound end → WornWithin higher end
worn_higher bound higher (how.Worn ticket) below worn = let high = worn.1 in (worn.0, omega arith)
worn_higher bound higher how.Done below worn = tt
worn_higher bound higher how.Stopped below worn = tt
worn_higher bound higher how.Quiet below worn = tt
worn_higher bound higher how.ReadFault below worn = tt
worn_higher bound higher how.WriteFault below worn = tt
worn_higher bound higher how.ClockFault below worn = tt
worn_higher bound higher how.Malformed below worn = tt
worn_higher bound higher how.NoMemory below worn = tt

-- what is said of a connection that was served survives
pub stands_longer : (service : Service) (seen more : List Event) (bound higher : ℕ) (before after : Connection) (served : Served)
    (place : Option ℕ) → bound ≤ higher → StandsIn service seen bound before after served place
    → StandsIn service (seen ++ more) higher before after served place
stands_longer service seen more bound higher before after served (Some place) below at = record {
  made = at.made;
  others = at.others ++ more;
  history_is = ap (λ l. l ++ more) at.history_is ∙ append_assoc at.made.before (at.made.entry ∷ at.others) more;
  place_is = at.place_is;
  by = at.by;
  is_served = at.is_served;
}
stands_longer service seen more bound higher before after served None below at =
    record { worn = worn_higher bound higher served.how below at.worn; is_served = at.is_served }

pub marks_longer : (number : ℕ) (seen more : List Event) (rule place : Option ℕ) → Marks number seen rule place
    → Marks number (seen ++ more) rule place
marks_longer number seen more rule (Some place) at = record {
  before = at.before;
  entry = at.entry;
  others = at.others ++ more;
  history_is = ap (λ l. l ++ more) at.history_is ∙ append_assoc at.before (at.entry ∷ at.others) more;
  place_is = at.place_is;
  by = at.by;
  told = at.told;
}
marks_longer number seen more rule None at = at

pub served_longer : {L C : Type 0} (work : Work L C) (seen more : List Event) (bound higher : ℕ) (done : Done L C) → bound ≤ higher
    → HasServed work seen bound done → HasServed work (seen ++ more) higher done
served_longer work seen more bound higher done below h = record {
  job = h.job;
  job_is = h.job_is;
  marks = marks_longer done.pass seen more done.served.rule done.served.place h.marks;
  stands = λ files made.
      stands_longer (service_of (terms_of work.world h.job.who files) (seed_of work done.job) done.pass) seen more bound higher
      (work.sight.connection h.job.conn) (work.sight.connection done.conn) done.served done.served.place below (h.stands files made);
  reading = h.reading;
  caused = h.caused;
  complete = h.complete;
}

pub served_higher : {L C : Type 0} (work : Work L C) (seen : List Event) (bound higher : ℕ) (done : Done L C) → bound ≤ higher
    → HasServed work seen bound done → HasServed work seen higher done
served_higher work seen bound higher done below h =
    subst (λ l. HasServed work l higher done) (append-nil seen) (served_longer work seen [] bound higher done below h)

-- ---- one call

Leaves : (old new : PassState) → Type 0
Leaves old new = (old.highest ≤ new.highest) × (new ≡ record old { highest = new.highest })

leaves_same : (old new : PassState) → new ≡ old → Leaves old new
unfolding Leaves
leaves_same old new same =
    let h = ap (λ (z : PassState). z.highest) same in
    let P : PassState → Type 0 = λ z. new ≡ record z { highest = new.highest } in (omega arith, subst P same refl)

leaves_on : (end : ServeEnd) (old new : PassState) → LeavesPass end old new → Leaves old new
unfolding Leaves
leaves_on (how.Worn ticket) old new worn =
    let h : new.highest ≡ ticket = ap (λ (z : PassState). z.highest) worn.after_is in
    let below = worn.not_below in (
      omega arith,
      worn.after_is ∙ ap (λ k. let z : PassState = record old { highest = k } in z) (sym h),
    )
leaves_on how.Done old new same = leaves_same old new same
leaves_on how.Stopped old new same = leaves_same old new same
leaves_on how.Quiet old new same = leaves_same old new same
leaves_on how.ReadFault old new same = leaves_same old new same
leaves_on how.WriteFault old new same = leaves_same old new same
leaves_on how.ClockFault old new same = leaves_same old new same
leaves_on how.Malformed old new same = leaves_same old new same
leaves_on how.NoMemory old new same = leaves_same old new same

pub worn_now : (end : ServeEnd) (old new : PassState) → LeavesPass end old new → WornWithin new.highest end
worn_now (how.Worn ticket) old new worn =
    let h : new.highest ≡ ticket = ap (λ (z : PassState). z.highest) worn.after_is in (worn.worn, omega arith)
worn_now how.Done old new same = tt
worn_now how.Stopped old new same = tt
worn_now how.Quiet old new same = tt
worn_now how.ReadFault old new same = tt
worn_now how.WriteFault old new same = tt
worn_now how.ClockFault old new same = tt
worn_now how.Malformed old new same = tt
worn_now how.NoMemory old new same = tt

-- the connection stands in what its pass has seen after the call
pub stands_now : (service : Service) (old new : PassState) (before after : Connection) (served : Served) (place : Option ℕ)
    → Serves service old new before after served place → StandsIn service new.seen new.highest before after served place
stands_now service old new before after served (Some place) serves = record {
  made = serves.made;
  others = [];
  history_is = ap (λ (z : PassState). z.seen) serves.enters.after_is;
  place_is = serves.place_is;
  by = serves.by;
  is_served = serves.is_served;
}
stands_now service old new before after served None serves =
    record { worn = worn_now served.how old new serves.leaves; is_served = serves.is_served }

pub moves_by : (service : Service) (old new : PassState) (before after : Connection) (served : Served) (place : Option ℕ)
    → service.number ≡ old.number → Serves service old new before after served place → Moves old new served.rule place
unfolding Leaves
moves_by service old new before after served (Some place) number serves = record {
  before = serves.made.before;
  entry = serves.made.entry;
  enters = serves.enters;
  place_is = serves.place_is;
  by = serves.by ∙ number;
  told = served_told service serves.made before after served serves.is_served;
}
moves_by service old new before after served None number serves =
    let on = leaves_on served.how old new serves.leaves in record { not_below = on.0; after_is = on.1 }

pub moves_now : {L C : Type 0} (sight : Sight L C) (world : World) (seed : List ℕ) (old new : PassState) (job : Job L C) (done : Done L C)
    → IsMade world → IsServedJob sight world seed old new job done → Moves old new done.served.rule done.served.place
moves_now sight world seed old new job done made is =
    moves_by (service_of (terms_of world job.who made.files) seed old.number) old new (sight.connection job.conn)
    (sight.connection done.conn) done.served done.served.place refl (is.serves made.files made.made)

pub same_number : (old new : PassState) (rule place : Option ℕ) → Moves old new rule place → new.number ≡ old.number
same_number old new rule (Some place) moves = ap (λ (z : PassState). z.number) moves.enters.after_is
same_number old new rule None moves = ap (λ (z : PassState). z.number) moves.after_is

pub marks_now : (old new : PassState) (rule place : Option ℕ) → Moves old new rule place → Marks new.number new.seen rule place
marks_now old new rule (Some place) moves = record {
  before = moves.before;
  entry = moves.entry;
  others = [];
  history_is = ap (λ (z : PassState). z.seen) moves.enters.after_is;
  place_is = moves.place_is;
  by = moves.by ∙ sym (ap (λ (z : PassState). z.number) moves.enters.after_is);
  told = moves.told;
}
marks_now old new rule None moves = tt

-- ---- a worker

pub worked_none : {L C : Type 0} (work : Work L C) (number bound : ℕ) → Worked work number [] bound []
worked_none work number bound = account_none place_of (HasServed work) (served_longer work) number bound

pub worked_longer : {L C : Type 0} (work : Work L C) (number : ℕ) (seen longer : List Event) (bound higher : ℕ) (done : List (Done L C))
    → bound ≤ higher → GoesOn (number ∷ []) seen longer → Worked work number seen bound done → Worked work number longer higher done
worked_longer work = account_longer place_of (HasServed work) (served_longer work)

-- the job of a task that was served stands in what its pass has seen
served_now : {L C : Type 0} (sight : Sight L C) (world : World) (seeds : List (List ℕ)) (jobs : List (Job L C)) (seed : List ℕ)
    (old new : PassState) (task : Task L C) (done : Done L C) → IsMade world → done.job ≡ task.number
    → IsTaskOf (work_of sight world seeds jobs) seed task → IsServedJob sight world seed old new task.job done
    → HasServed (work_of sight world seeds jobs) new.seen new.highest done
served_now {L} {C} sight world seeds jobs seed old new task done made number is did =
    let work : Work L C = work_of sight world seeds jobs in
    let moves = moves_now sight world seed old new task.job done made did in
    let own : done.pass ≡ old.number = did.pass_is ∙ same_number old new done.served.rule done.served.place moves in
    let mine : seed ≡ seed_of work done.job = sym (ap (seed_of work) number ∙ is.seed_is) in
    record {
      job = task.job;
      job_is = ap (λ n. slice_get jobs n) number ∙ is.job_is;
      marks = subst (λ n. Marks n new.seen done.served.rule done.served.place) (sym did.pass_is)
          (marks_now old new done.served.rule done.served.place moves);
      stands = λ files files_made.
          subst (λ n. StandsIn (service_of (terms_of world task.job.who files) (seed_of work done.job) n) new.seen new.highest
          (sight.connection task.job.conn) (sight.connection done.conn) done.served done.served.place) (sym own)
          (subst (λ s. StandsIn (service_of (terms_of world task.job.who files) s old.number) new.seen new.highest
          (sight.connection task.job.conn) (sight.connection done.conn) done.served done.served.place) mine
          (stands_now (service_of (terms_of world task.job.who files) seed old.number) old new (sight.connection task.job.conn)
          (sight.connection done.conn) done.served done.served.place (did.serves files files_made)));
      reading = did.reading;
      caused = did.caused;
      complete = did.complete;
    }

pub worked_more : {L C : Type 0} (sight : Sight L C) (world : World) (seeds : List (List ℕ)) (jobs : List (Job L C)) (seed : List ℕ)
    (old new : PassState) (items : List (Done L C)) (task : Task L C) (done : Done L C) → IsMade world → old.numbers ≡ old.number ∷ []
    → done.job ≡ task.number → IsTaskOf (work_of sight world seeds jobs) seed task → IsServedJob sight world seed old new task.job done
    → Worked (work_of sight world seeds jobs) old.number old.seen old.highest items
    → Worked (work_of sight world seeds jobs) new.number new.seen new.highest (items ++ done ∷ [])
worked_more {L} {C} sight world seeds jobs seed old new items task done made alone number is did worked =
    let work : Work L C = work_of sight world seeds jobs in
    account_more place_of (HasServed work) (served_longer work) old new items done done.served.rule done.served.place refl alone
    (moves_now sight world seed old new task.job done made did)
    (served_now sight world seeds jobs seed old new task done made number is did) worked
