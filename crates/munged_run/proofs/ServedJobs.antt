-- What serving one job of a load comes to.
use Rattle.std.proofs.Common.{◌≡◌, ℕ, ◌/◌, false, List, [], ◌∷◌, ◌++◌, Option, Some, None, refl, sym, ap, ◌∙◌, subst, arith}
use Rattle.std.proofs.lemmas.List.{append-nil}
use Rattle.std.specs.List.{slice_get}
use Rattle.byte_io.specs.Counts.{Rose}
use Rattle.munge_types.specs.declared.history.Event.{Event}
use Rattle.munge_types.specs.declared.history.Event.TheVariants.{Admit}
use Rattle.munge_types.specs.declared.settings.Settings.{Settings}
use Rattle.cred_open.specs.Credential.{Credential, pair_of}
use Rattle.decode_rules.specs.Finding.{Finding, Finds, Ready}
use Rattle.decode_rules.specs.Terms.{Terms, terms_of}
use Rattle.load_maker.specs.Load.{IsLoad, files_of}
use Rattle.load_maker.specs.Presented.{IsReadyUntil, expiry_at}
use Rattle.load_maker.specs.declared.making.Load.{Load}
use Rattle.wire_msg.specs.Spelling.{frame_of}
use Rattle.wire_msg.specs.declared.message.Message.{Message}
use Rattle.wire_msg.specs.declared.message.Message.TheVariants.{DecodeRequest}
use Rattle.session_core.specs.Connection.{Connection, TakesReading}
use Rattle.session_core.specs.OnGate.{StandsIn}
use Rattle.session_core.specs.Requests.{IsRequest}
use Rattle.session_core.specs.Service.{IsLookUp, Made, Replies, RepliesToText, Service, service_of}
use Rattle.session_core.specs.Serving.{EndsAs, IsHeard, IsReplied, IsServed, notes_told}
use Rattle.session_core.specs.Things.{CameToEnd}
use Rattle.session_core.specs.WholeRequest.{AnswersWhole}
use Rattle.session_core.specs.declared.served.ServeEnd.{ServeEnd}
use Rattle.session_core.specs.declared.served.ServeEnd.TheVariants as how
use Rattle.session_core.specs.declared.served.Served.{Served}
use Rattle.worker_pool.specs.Pool.{IsNotWorn}
use Rattle.worker_pool.specs.Standing.{HasServed}
use Rattle.worker_pool.specs.Work.{Work, seed_of, work_of}
use Rattle.worker_pool.specs.declared.job.Done.{Done}
use Rattle.worker_pool.specs.declared.job.Job.{Job}
use Rattle.munged_run.specs.LoadJobs.{AreJobsOf, load_sight}
use Rattle.munged_run.specs.LoadLink.{LinkState}
use Rattle.munged_run.specs.LoadServed.{EndsWell, LooksUp, wants_memory}
use Rattle.munged_run.specs.declared.load.clock.LoadClock.{LoadClock}
use Rattle.munged_run.proofs.StreamOfRequests.{FrameLaws, requests_apart}

-- what is known of frames, of findings and of loads
pub record LoadLaws : Type 0 where
  pub frames : FrameLaws
  pub one_finding : (terms : Terms) (moment : ℕ) (text : List ℕ) (first second : Finding)
      → Finds terms moment text first → Finds terms moment text second → first ≡ second
  pub ready : (n number : ℕ) (load : Load) (i : ℕ) (text : List ℕ) → IsLoad n number load
      → slice_get load.texts.items i ≡ Some text
      → IsReadyUntil (terms_of load.world load.who (files_of number)) load.moment (expiry_at i) text

-- what was read of a connection that brings one request is that request
heard_text : FrameLaws → (text rest read : List ℕ) (request : Message) (served : Served)
    → IsRequest (DecodeRequest text) → frame_of (DecodeRequest text) ≡ read ++ rest
    → IsHeard read served request → request ≡ DecodeRequest text
heard_text laws text rest read request served fits same heard =
    (requests_apart laws request (DecodeRequest text) rest [] heard.fits fits
    (ap (λ r. r ++ rest) (sym heard.read_is) ∙ (sym same ∙ sym (append-nil (frame_of (DecodeRequest text)))))).0

-- the connections of a job, before and after
abbrev seen : LinkState → Connection
seen link = load_sight.connection link

-- a job that was answered was answered to its text
replied : FrameLaws → (service : Service) (made : Option Made) (text : List ℕ) (before after : LinkState) (served : Served)
    (read : List ℕ) (Sent : Message → List ℕ → Type 0)
    → IsRequest (DecodeRequest text) → before.left ≡ frame_of (DecodeRequest text)
    → before.left ≡ read ++ after.left → IsReplied service made read served Sent
    → (reply : List ℕ) × (RepliesToText service made text (notes_told served) reply × Sent (DecodeRequest text) reply)
replied laws service made text before after served read Sent fits brings consumed is =
    let same : is.request ≡ DecodeRequest text =
    heard_text laws text after.left read is.request served fits (sym brings ∙ consumed) is.heard in
    (is.reply, (subst (λ r. Replies service made r (notes_told served) is.reply) same is.replies, subst (λ r. Sent r is.reply) same is.sent))

-- a job asks for no stop
never_stops : FrameLaws → (service : Service) (made : Option Made) (text : List ℕ) (before after : LinkState) (served : Served)
    → IsRequest (DecodeRequest text) → before.left ≡ frame_of (DecodeRequest text)
    → IsServed service made (seen before) (seen after) served → served.how ≡ how.Stopped → ⊥
never_stops laws service made text before after served fits brings is stopped =
    let ends = subst (EndsAs service made (CameToEnd (seen before).input (seen after).input) is.exchange served) stopped is.ends in
    let told = replied laws service made text before after served is.exchange.read _ fits brings is.consumed ends in
    absurd (cc told.1.1.1)

-- the entry of a job that found its credential ready
found_ready : (settings : Settings) (number at : ℕ) (credential : Credential) (made : Option Made)
    → IsLookUp settings number at (Ready credential) made
    → (m : Made) × ((made ≡ Some m) × (m.entry ≡ Admit number (pair_of settings.max_ttl credential) at))
found_ready settings number at credential None look = absurd look
found_ready settings number at credential (Some m) look = (m, (refl, look))

abbrev load_terms : Load → (number : ℕ) → Terms
load_terms load number = terms_of load.world load.who (files_of number)

-- a job that was answered made the look-up of its credential
done_looks : LoadLaws → (n number : ℕ) (load : Load) (i : ℕ) (text seed : List ℕ) (pass : ℕ) (made : Option Made)
    (before after : LinkState) (clock clock' : LoadClock) (served : Served)
    → (is_load : IsLoad n number load) (text_is : slice_get load.texts.items i ≡ Some text)
    → IsRequest (DecodeRequest text) → before.left ≡ frame_of (DecodeRequest text)
    → TakesReading (load_sight.timing clock) (load_sight.timing clock') served.moment
    → IsServed (service_of (load_terms load number) seed pass) made (seen before) (seen after) served → served.how ≡ how.Done
    → (ready : IsReadyUntil (load_terms load number) load.moment (expiry_at i) text)
    × ((m : Made) × ((made ≡ Some m) × (m.entry ≡ Admit pass (pair_of load.world.settings.max_ttl ready.credential) load.moment)))
done_looks laws n number load i text seed pass made before after clock clock' served is_load text_is fits brings reading is done =
    let service : Service = service_of (load_terms load number) seed pass in
    let ends = subst (EndsAs service made (CameToEnd (seen before).input (seen after).input) is.exchange served) done is.ends in
    let told = replied laws.frames service made text before after served is.exchange.read _ fits brings is.consumed ends in
    let answered : RepliesToText service made text (notes_told served) told.0 = told.1.0 in
    let timed : served.moment ≡ Some answered.moment = ap (λ notes. notes.moment) answered.notes_are in
    let read = subst (TakesReading (load_sight.timing clock) (load_sight.timing clock')) timed reading in
    let at : answered.moment ≡ load.moment = sym read.1 ∙ sym is_load.at in
    let ready = laws.ready n number load i text is_load text_is in
    let finds : Finds (load_terms load number) load.moment text answered.finding =
    subst (λ m. Finds (load_terms load number) m text answered.finding) at answered.finds in
    let same : answered.finding ≡ Ready ready.credential =
    laws.one_finding (load_terms load number) load.moment text answered.finding (Ready ready.credential) finds ready.finds in
    let look : IsLookUp load.world.settings pass load.moment (Ready ready.credential) made =
    subst (λ m. IsLookUp load.world.settings pass m (Ready ready.credential) made) at
    (subst (λ f. IsLookUp load.world.settings pass answered.moment f made) same answered.look_up) in
    (ready, found_ready load.world.settings pass load.moment ready.credential made look)

-- the place of a job's entry, and its look-up there
pub record Looked (number : ℕ) (load : Load) (history : List Event) (done : Done LinkState LoadClock) : Type 0 where
  pub place : ℕ
  pub place_is : done.served.place ≡ Some place
  pub looks : LooksUp number load history (done.job / 2) place

looked_in : LoadLaws → (n number : ℕ) (load : Load) (text seed : List ℕ) (history : List Event) (bound : ℕ)
    (before : LinkState) (clock : LoadClock) (done : Done LinkState LoadClock) (place : Option ℕ)
    → IsLoad n number load → slice_get load.texts.items (done.job / 2) ≡ Some text
    → IsRequest (DecodeRequest text) → before.left ≡ frame_of (DecodeRequest text)
    → TakesReading (load_sight.timing clock) (load_sight.timing done.clock) done.served.moment
    → done.served.place ≡ place
    → StandsIn (service_of (load_terms load number) seed done.pass) history bound (seen before) (seen done.conn) done.served place
    → done.served.how ≡ how.Done → Looked number load history done
looked_in laws n number load text seed history bound before clock done None is_load text_is fits brings reading placed at is_done =
    let found = done_looks laws n number load (done.job / 2) text seed done.pass None before done.conn clock done.clock done.served
    is_load text_is fits brings reading at.is_served is_done in
    absurd (cc found.1.1.0)
looked_in laws n number load text seed history bound before clock done (Some place) is_load text_is fits brings reading placed at is_done =
    let found = done_looks laws n number load (done.job / 2) text seed done.pass (Some at.made) before done.conn clock done.clock done.served
    is_load text_is fits brings reading at.is_served is_done in
    let m : Made = found.1.0 in
    let same : at.made ≡ m = cc found.1.1.0 in
    let entry : at.made.entry ≡ Admit done.pass (pair_of load.world.settings.max_ttl found.0.credential) load.moment =
    ap (λ made. made.entry) same ∙ found.1.1.1 in
    record {
      place = place;
      place_is = placed;
      looks = record {
        text = text;
        text_is = text_is;
        ready = found.0;
        pass = done.pass;
        before = at.made.before;
        others = at.others;
        place_is = at.place_is;
        entries_are = at.history_is ∙ ap (λ e. at.made.before ++ e ∷ at.others) entry;
      };
    }

-- in one of the ways that a job may end it ends well
well : (size : ℕ) (served : Served) (end : ServeEnd) → AnswersWhole size served end → IsNotWorn end
    → (end ≡ how.Stopped → ⊥) → EndsWell end
well size served how.Done answers worn stops = tt
well size served how.NoMemory answers worn stops = tt
well size served how.Stopped answers worn stops = stops refl
well size served how.Quiet answers worn stops = answers
well size served how.ReadFault answers worn stops = answers
well size served how.WriteFault answers worn stops = answers
well size served how.ClockFault answers worn stops = answers
well size served how.Malformed answers worn stops = answers
well size served (how.Worn ticket) answers worn stops = worn

-- where it did not want memory, it is done
pub is_done : (end : ServeEnd) → EndsWell end → wants_memory end ≡ false → end ≡ how.Done
is_done how.Done ends wants = refl
is_done how.NoMemory ends wants = absurd (cc wants)
is_done how.Stopped ends wants = absurd ends
is_done how.Quiet ends wants = absurd ends
is_done how.ReadFault ends wants = absurd ends
is_done how.WriteFault ends wants = absurd ends
is_done how.ClockFault ends wants = absurd ends
is_done how.Malformed ends wants = absurd ends
is_done (how.Worn ticket) ends wants = absurd ends

not_stopped_in : FrameLaws → (service : Service) (text : List ℕ) (history : List Event) (bound : ℕ) (before after : LinkState) (served : Served)
    (place : Option ℕ) → IsRequest (DecodeRequest text) → before.left ≡ frame_of (DecodeRequest text)
    → StandsIn service history bound (seen before) (seen after) served place → served.how ≡ how.Stopped → ⊥
not_stopped_in laws service text history bound before after served None fits brings at =
    never_stops laws service None text before after served fits brings at.is_served
not_stopped_in laws service text history bound before after served (Some place) fits brings at =
    never_stops laws service (Some at.made) text before after served fits brings at.is_served

no_rise : ¬ Rose 0 0
no_rise rose = omega (arith, rose)

abbrev pub load_work : Load → (seeds : List (List ℕ)) → (jobs : List (Job LinkState LoadClock)) → Work LinkState LoadClock
load_work load seeds jobs = work_of load_sight load.world seeds jobs

-- each job of a load ends well
pub job_ends : FrameLaws → (n number : ℕ) (load : Load) (seeds : List (List ℕ)) (jobs : List (Job LinkState LoadClock)) (history : List Event) (bound : ℕ)
    (done : Done LinkState LoadClock) → IsLoad n number load → AreJobsOf load jobs
    → HasServed (load_work load seeds jobs) history bound done → IsNotWorn done.served.how → EndsWell done.served.how
job_ends laws n number load seeds jobs history bound done is_load are has not_worn =
    let presents = are.each done.job has.job has.job_is in
    let brings = presents.is_job.brings in
    let answers = has.complete (DecodeRequest presents.bytes)
    (record {
      fits = brings.fits;
      rest = [];
      left_is = ap Some (brings.bytes_are ∙ sym (append-nil (frame_of (DecodeRequest presents.bytes))));
    })
    (record { reads = no_rise; writes = no_rise; clock = no_rise }) in
    well _ done.served done.served.how answers not_worn
    (not_stopped_in laws _ presents.bytes history bound has.job.conn done.conn done.served done.served.place brings.fits brings.bytes_are
    (has.stands (files_of number) is_load.world))

-- and where it is done it made the look-up of its credential
pub job_looks : LoadLaws → (n number : ℕ) (load : Load) (seeds : List (List ℕ)) (jobs : List (Job LinkState LoadClock)) (history : List Event) (bound : ℕ)
    (done : Done LinkState LoadClock) → IsLoad n number load → AreJobsOf load jobs
    → HasServed (load_work load seeds jobs) history bound done → done.served.how ≡ how.Done → Looked number load history done
job_looks laws n number load seeds jobs history bound done is_load are has is =
    let presents = are.each done.job has.job has.job_is in
    let brings = presents.is_job.brings in
    let work = load_work load seeds jobs in
    let stands = subst
    (λ who. StandsIn (service_of (terms_of load.world who (files_of number)) (seed_of work done.job) done.pass) history bound
    (seen has.job.conn) (seen done.conn) done.served done.served.place)
    presents.is_job.who_is (has.stands (files_of number) is_load.world) in
    looked_in laws n number load presents.bytes (seed_of work done.job) history bound has.job.conn has.job.clock done done.served.place
    is_load presents.text_is brings.fits brings.bytes_are has.reading refl stands is
