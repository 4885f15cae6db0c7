-- What a worker of a daemon has done, before its first connection and with one more.
use Rattle.std.proofs.Common.{◌≡◌, ℕ, ◌+◌, ◌*◌, ◌%◌, ◌^◌, ◌≤◌, suc, Bool, true, false, cond, List, [], ◌∷◌, ◌++◌, length, map, Option, Some, None, sym, ap, ◌∙◌, refl, subst, arith, length-append}
use Rattle.std.specs.List.{count_by, range_with_len}
use Rattle.std.specs.Io.KnownBytes.{Consumes, Keeps}
use Rattle.std.proofs.lemmas.List.{append-nil, map-append}
use Rattle.std.proofs.lemmas.List.Elements.{All-nil, All-push}
use Rattle.std.proofs.lemmas.List.Sums.{sum_by_push}
use Rattle.byte_io.proofs.StreamLemmas.{consumes_more}
use Rattle.cred_seal.specs.Dice.{DiceState, next_place}
use Rattle.decode_rules.specs.declared.world.World.{World}
use Rattle.munge_types.specs.declared.history.Verdict.TheVariants.{Accepted, Expired, Replayed}
use Rattle.replay_gate.specs.PassState.{GateId, PassState}
use Rattle.session_core.specs.Causes.{ClockCausedBy}
use Rattle.session_core.specs.Connection.{Connection, TakesReading, Timing}
use Rattle.session_core.specs.OnGate.{Draws, PassGoesOn, Serves, WornWithin}
use Rattle.session_core.specs.Service.{Service, service_of}
use Rattle.session_core.specs.declared.served.ServeEnd.{ServeEnd}
use Rattle.session_core.specs.declared.served.ServeEnd.TheVariants as how
use Rattle.session_core.specs.declared.served.Served.{Served}
use Rattle.decode_rules.specs.Terms.{terms_of}
use Rattle.worker_pool.specs.Books.{Appended, Holds}
use Rattle.worker_pool.specs.Cases.{Case, bench_of, case_of, kepts}
use Rattle.worker_pool.specs.Desks.{DeskSight, Handles, HasWorked, IsNewDesk, Works, clock_faults_of, draws, drawn_by, is_clock_fault, later_of, moments_of, with_told, worn_of}
use Rattle.worker_pool.specs.Entering.{Moves}
use Rattle.worker_pool.specs.Pool.{IsNotWorn}
use Rattle.worker_pool.specs.Single.{IsSingle, IsWornWithin, RoseBy, capped}
use Rattle.worker_pool.specs.Tally.{tells}
use Rattle.worker_pool.specs.Tallying.{Counted, CountedOne, looks_up, more_counted}
use Rattle.worker_pool.specs.declared.desk.Desk.{Desk}
use Rattle.worker_pool.specs.declared.handled.Handled.{Handled}
use Rattle.worker_pool.specs.declared.post.Queued.{Queued}
use Rattle.worker_pool.specs.declared.tally.Tally.{Tally}
use Rattle.worker_pool.proofs.Accounts.{moves_by, worn_now}
use Rattle.worker_pool.proofs.Drawings.{range_push}
use Rattle.worker_pool.proofs.Handlings.{works_more, works_none}
use Rattle.worker_pool.proofs.Tells.{ends_unworn}

-- ---- what is told in order

-- what one of them tells
told_by : Option ℕ → List ℕ
told_by None = []
told_by (Some one) = one ∷ []

with_more : (told : Option ℕ) (xs ys : List ℕ) → with_told told (xs ++ ys) ≡ with_told told xs ++ ys
with_more None xs ys = refl
with_more (Some one) xs ys = refl

with_none : (told : Option ℕ) → with_told told [] ≡ told_by told
unfolding told_by
with_none None = refl
with_none (Some one) = refl

moments_more : {L : Type 0} (cases : List (Case L)) (c : Case L) → moments_of (cases ++ c ∷ []) ≡ moments_of cases ++ told_by c.kept.served.moment
moments_more [] c = with_none c.kept.served.moment
moments_more (x ∷ cases) c =
    ap (with_told x.kept.served.moment) (moments_more cases c) ∙ with_more x.kept.served.moment (moments_of cases) (told_by c.kept.served.moment)

drawn_more : {L : Type 0} (cases : List (Case L)) (c : Case L) → drawn_by (cases ++ c ∷ []) ≡ drawn_by cases ++ told_by c.kept.served.drawn
drawn_more [] c = with_none c.kept.served.drawn
drawn_more (x ∷ cases) c =
    ap (with_told x.kept.served.drawn) (drawn_more cases c) ∙ with_more x.kept.served.drawn (drawn_by cases) (told_by c.kept.served.drawn)

-- ---- the book

kept_now : {L : Type 0} (cases : List (Case L)) (c : Case L) (old new : Option (List (Handled L))) → Holds old (kepts cases)
    → Appended old c.kept new → Holds new (kepts (cases ++ c ∷ []))
kept_now cases c old None holds appended = tt
kept_now {L} cases c old (Some list) holds appended =
    let before : appended.0 ≡ kepts cases = subst (λ (o : Option (List (Handled L))). Holds o (kepts cases)) appended.1 holds in
    appended.2 ∙ (ap (λ l. l ++ c.kept ∷ []) before ∙ sym (map-append (λ (c : Case L). c.kept) cases (c ∷ [])))

-- ---- the dice

draws_push : (n : ℕ) → draws (n + 1) ≡ draws n ++ (6 * n) % 2 ^ 68 ∷ []
draws_push n =
    let e : suc n ≡ n + 1 = omega arith in
    let z : 0 + n ≡ n = omega arith in
    ap draws (sym e) ∙ (ap (map (λ k. (6 * k) % 2 ^ 68)) (range_push 0 n)
    ∙ (map-append (λ (k : ℕ). (6 * k) % 2 ^ 68) (range_with_len 0 n) ((0 + n) ∷ []) ∙ ap (λ m. draws n ++ (6 * m) % 2 ^ 68 ∷ []) z))

-- the seed, the place and the places drawn, with one draw more or none
record HasDrawn (seed places : List ℕ) (dice : DiceState) : Type 0 where
  seed_is : dice.seed ≡ seed
  place_is : dice.place ≡ (6 * length places) % 2 ^ 68
  drawn : places ≡ draws (length places)

dice_now : (seed places : List ℕ) (old new : DiceState) (drawn : Option ℕ) → HasDrawn seed places old → Draws old new drawn
    → HasDrawn seed (places ++ told_by drawn) new
unfolding told_by
dice_now seed places old new None had same =
    let e = append-nil places in
    let is : HasDrawn seed places new = subst (HasDrawn seed places) (sym same) had in
    subst (λ l. HasDrawn seed l new) (sym e) is
dice_now seed places old new (Some place) had drew =
    let n = length places in
    let here : place ≡ (6 * n) % 2 ^ 68 = drew.0 ∙ had.place_is in
    let more : length (places ++ place ∷ []) ≡ n + 1 = length-append places (place ∷ []) in
    let next : next_place old.place ≡ (6 * (n + 1)) % 2 ^ 68 = ap next_place had.place_is ∙ omega arith in
    record {
      seed_is = ap (λ (d : DiceState). d.seed) drew.1 ∙ had.seed_is;
      place_is = ap (λ (d : DiceState). d.place) drew.1 ∙ (next ∙ ap (λ m. (6 * m) % 2 ^ 68) (sym more));
      drawn = ap (λ l. l ++ place ∷ []) had.drawn ∙ (ap (λ p. draws n ++ p ∷ []) here ∙ (sym (draws_push n) ∙ ap draws (sym more)));
    }

-- ---- the clock

record HasRead (moments : List ℕ) (first now : Timing) : Type 0 where
  read : Consumes first.readings now.readings moments
  given : RoseBy (length moments) first.given now.given

read_none : (told : Option (List ℕ)) → Consumes told told []
read_none None = tt
read_none (Some readings) = refl

keeps_read : (first now new : Option (List ℕ)) (moments : List ℕ) → Consumes first now moments → Keeps now new → Consumes first new moments
keeps_read None now new moments read kept = tt
keeps_read (Some f) None new moments read kept = absurd read
keeps_read (Some f) (Some n) None moments read kept = absurd kept
keeps_read (Some f) (Some n) (Some m) moments read kept = read ∙ ap (λ l. moments ++ l) (sym kept)

timing_now : (moments : List ℕ) (first now new : Timing) (moment : Option ℕ) → HasRead moments first now → TakesReading now new moment
    → HasRead (moments ++ told_by moment) first new
unfolding told_by
timing_now moments first now new None had took =
    let e = append-nil moments in
    subst (λ l. HasRead l first new) (sym e) record {
      read = keeps_read first.readings now.readings new.readings moments had.read took.0;
      given = subst (RoseBy (length moments) first.given) (sym took.2) had.given;
    }
timing_now moments first now new (Some moment) had took = record {
  read = consumes_more first.readings now.readings new.readings moments (moment ∷ []) had.read took.0;
  given =
      (let a = had.given in
      let b = took.2 in
      let more : length (moments ++ moment ∷ []) ≡ length moments + 1 = length-append moments (moment ∷ []) in omega arith);
}

clock_failed_now : {L : Type 0} (cases : List (Case L)) (c : Case L) (first now new : ℕ) → RoseBy (clock_faults_of cases) first now
    → ClockCausedBy now new c.kept.served.how → RoseBy (clock_faults_of (cases ++ c ∷ [])) first new
clock_failed_now {L} cases c first now new rose caused =
    let push = sum_by_push (λ (c : Case L). cond {A = ℕ} (is_clock_fault c.kept.served.how) 1 0) cases c in
    one c.kept.served.how (clock_faults_of (cases ++ c ∷ [])) push caused
  where
    one : (end : ServeEnd) (count : ℕ) → count ≡ clock_faults_of cases + cond {A = ℕ} (is_clock_fault end) 1 0 → ClockCausedBy now new end
        → RoseBy count first new
    one how.ClockFault count is caused = let a = rose in let b = caused in omega arith
    one how.Done count is caused = let a = rose in let b = caused in omega arith
    one how.Stopped count is caused = let a = rose in let b = caused in omega arith
    one how.Quiet count is caused = let a = rose in let b = caused in omega arith
    one how.ReadFault count is caused = let a = rose in let b = caused in omega arith
    one how.WriteFault count is caused = let a = rose in let b = caused in omega arith
    one how.Malformed count is caused = let a = rose in let b = caused in omega arith
    one how.NoMemory count is caused = let a = rose in let b = caused in omega arith
    one (how.Worn ticket) count is caused = let a = rose in let b = caused in omega arith

-- ---- the tally

count_now : {L : Type 0} (test : Case L → Bool) (cases : List (Case L)) (c : Case L) (old new : ℕ) → old ≡ capped (count_by test cases)
    → new ≡ more_counted (test c) old → new ≡ capped (count_by test (cases ++ c ∷ []))
count_now {L} test cases c old new is more =
    let push = sum_by_push (λ (c : Case L). cond {A = ℕ} (test c) 1 0) cases c in
    one (test c) (count_by test (cases ++ c ∷ [])) push more
  where
    one : (b : Bool) (count : ℕ) → count ≡ count_by test cases + cond {A = ℕ} b 1 0 → new ≡ more_counted b old → new ≡ capped count
    one true count is_count more = let a = is in omega arith
    one false count is_count more = let a = is in omega arith

counted_now : {L : Type 0} (cases : List (Case L)) (c : Case L) (old new : Tally) → Counted cases old
    → CountedOne c.kept.served.place c.kept.served.rule old new → Counted (cases ++ c ∷ []) new
counted_now {L} cases c old new had more = record {
  presented = count_now (looks_up {L = L}) cases c old.presented new.presented had.presented more.presented;
  accepted = count_now (λ (c : Case L). tells Accepted c.kept.served.place c.kept.served.rule) cases c old.accepted new.accepted had.accepted more.accepted;
  replayed = count_now (λ (c : Case L). tells Replayed c.kept.served.place c.kept.served.rule) cases c old.replayed new.replayed had.replayed more.replayed;
  expired = count_now (λ (c : Case L). tells Expired c.kept.served.place c.kept.served.rule) cases c old.expired new.expired had.expired more.expired;
}

-- ---- a worn gate

pub worn_higher : (bound higher : ℕ) (worn : Option ℕ) → bound ≤ higher → IsWornWithin bound worn → IsWornWithin higher worn
worn_higher bound higher None below within = tt
worn_higher bound higher (Some ticket) below within = let high = within.1 in (within.0, omega arith)

pub worn_later : (bound : ℕ) (old found : Option ℕ) → IsWornWithin bound old → IsWornWithin bound found → IsWornWithin bound (later_of old found)
worn_later bound old None had has = had
worn_later bound old (Some ticket) had has = has

found_within : (bound : ℕ) (end : ServeEnd) → WornWithin bound end → IsWornWithin bound (worn_of end)
found_within bound (how.Worn ticket) worn = worn
found_within bound how.Done worn = tt
found_within bound how.Stopped worn = tt
found_within bound how.Quiet worn = tt
found_within bound how.ReadFault worn = tt
found_within bound how.WriteFault worn = tt
found_within bound how.ClockFault worn = tt
found_within bound how.Malformed worn = tt
found_within bound how.NoMemory worn = tt

not_worn_now : (old : Option ℕ) (end : ServeEnd) → later_of old (worn_of end) ≡ None → (old ≡ None) × IsNotWorn end
not_worn_now old (how.Worn ticket) none = absurd (cc)
not_worn_now old how.Done none = (none, tt)
not_worn_now old how.Stopped none = (none, tt)
not_worn_now old how.Quiet none = (none, tt)
not_worn_now old how.ReadFault none = (none, tt)
not_worn_now old how.WriteFault none = (none, tt)
not_worn_now old how.ClockFault none = (none, tt)
not_worn_now old how.Malformed none = (none, tt)
not_worn_now old how.NoMemory none = (none, tt)

unworn_within : (bound : ℕ) (end : ServeEnd) → IsNotWorn end → WornWithin bound end
unworn_within bound (how.Worn ticket) worn = absurd worn
unworn_within bound how.Done worn = tt
unworn_within bound how.Stopped worn = tt
unworn_within bound how.Quiet worn = tt
unworn_within bound how.ReadFault worn = tt
unworn_within bound how.WriteFault worn = tt
unworn_within bound how.ClockFault worn = tt
unworn_within bound how.Malformed worn = tt
unworn_within bound how.NoMemory worn = tt

serves_within : (service : Service) (old new : PassState) (before after : Connection) (served : Served) (place : Option ℕ)
    → Serves service old new before after served place → WornWithin new.highest served.how
serves_within service old new before after served (Some place) serves =
    unworn_within new.highest served.how (ends_unworn service serves.made _ serves.is_served.exchange served served.how serves.is_served.ends)
serves_within service old new before after served None serves = worn_now served.how old new serves.leaves

-- ---- a worker

pub alone_still : (gate : GateId) (first now : PassState) → IsSingle gate first → PassGoesOn first now → now.numbers ≡ now.number ∷ []
alone_still gate first now single on =
    let P : PassState → Type 0 = λ z. z.numbers ≡ z.number ∷ [] in subst P (sym on) single.alone

pub single_still : (gate : GateId) (first now : PassState) → IsSingle gate first → PassGoesOn first now → IsSingle gate now
single_still gate first now single on = record {
  of_gate = ap (λ (z : PassState). z.gate) on ∙ single.of_gate;
  alone = alone_still gate first now single on;
  share = ap (λ (z : PassState). z.share) on ∙ single.share;
}

pub worked_none : {L C B : Type 0} (sight : DeskSight L C B) (world : World) (gate : GateId) (first : Desk C B) → IsNewDesk sight gate first
    → HasWorked sight world first first []
worked_none {L} {C} {B} sight world gate first new = record {
  pass = refl;
  works = λ made.
      subst (λ l. Works (bench_of sight.link world first.dice.seed) first.pass.number l first.pass.highest []) (sym new.seen)
      (works_none (bench_of sight.link world first.dice.seed) first.pass.number first.pass.highest);
  by_pass = All-nil (λ (c : Case L). c.kept.pass ≡ first.pass.number);
  kept = new.empty;
  seed_is = refl;
  place_is = new.none_drawn;
  drawn = refl;
  read = read_none (sight.timing first.clock).readings;
  given = omega arith;
  clock_failed = omega arith;
  counted = new.counts;
  worn_is = λ made. subst (IsWornWithin first.pass.highest) (sym new.not_worn) tt;
  none_worn = λ none. All-nil (λ (c : Case L). IsNotWorn c.kept.served.how);
}

pub worked_more : {L C B : Type 0} (sight : DeskSight L C B) (world : World) (gate : GateId) (first now new : Desk C B) (cases : List (Case L))
    (taken : Queued L) (h : Handles sight world now taken new) → IsSingle gate first.pass → HasWorked sight world first now cases
    → HasWorked sight world first new (cases ++ case_of taken h.kept ∷ [])
worked_more {L} {C} {B} sight world gate first now new cases taken h single had =
    let c : Case L = case_of taken h.kept in
    let own : now.pass.number ≡ first.pass.number = ap (λ (z : PassState). z.number) had.pass in
    let dice = dice_now first.dice.seed (drawn_by cases) now.dice new.dice h.kept.served.drawn
    (record { seed_is = had.seed_is; place_is = had.place_is; drawn = had.drawn }) h.draws in
    let drawn : drawn_by (cases ++ c ∷ []) ≡ drawn_by cases ++ told_by h.kept.served.drawn = drawn_more cases c in
    let timing = timing_now (moments_of cases) (sight.timing first.clock) (sight.timing now.clock) (sight.timing new.clock) h.kept.served.moment
    (record { read = had.read; given = had.given }) h.reading in
    let moments : moments_of (cases ++ c ∷ []) ≡ moments_of cases ++ told_by h.kept.served.moment = moments_more cases c in
    record {
      pass = h.pass ∙ ap (λ (z : PassState). let n : PassState = record z { highest = new.pass.highest; seen = new.pass.seen } in n) had.pass;
      works = λ made.
          subst (λ (s : List ℕ). Works (bench_of sight.link world s) new.pass.number new.pass.seen new.pass.highest (cases ++ c ∷ [])) had.seed_is
          (works_more sight world now taken new h made cases (alone_still gate first.pass now.pass single had.pass)
          (subst (λ (s : List ℕ). Works (bench_of sight.link world s) now.pass.number now.pass.seen now.pass.highest cases) (sym had.seed_is)
          (had.works made)));
      by_pass = All-push (λ (c : Case L). c.kept.pass ≡ first.pass.number) cases c had.by_pass (h.pass_is ∙ own);
      kept = kept_now cases c (sight.kept now.book) (sight.kept new.book) had.kept h.appended;
      seed_is = dice.seed_is;
      place_is = dice.place_is ∙ ap (λ l. (6 * length l) % 2 ^ 68) (sym drawn);
      drawn = subst (λ l. l ≡ draws (length l)) (sym drawn) dice.drawn;
      read = subst (Consumes (sight.timing first.clock).readings (sight.timing new.clock).readings) (sym moments) timing.read;
      given = subst (λ l. RoseBy (length l) (sight.timing first.clock).given (sight.timing new.clock).given) (sym moments) timing.given;
      clock_failed = clock_failed_now cases c (sight.clock_faults first.clock) (sight.clock_faults now.clock) (sight.clock_faults new.clock)
          had.clock_failed h.clock_caused;
      counted = counted_now cases c now.tally new.tally had.counted h.counted;
      worn_is = λ made.
          let files = made.files in
          let within = serves_within (service_of (terms_of world taken.who files) now.dice.seed now.pass.number) now.pass new.pass
          (sight.link.connection taken.waiting.conn) (sight.link.connection h.kept.conn) h.kept.served h.kept.served.place
          (h.serves files made.made) in
          let up : now.pass.highest ≤ new.pass.highest = highest_up now.pass new.pass h.kept.served.rule h.kept.served.place
          (moves_by (service_of (terms_of world taken.who files) now.dice.seed now.pass.number) now.pass new.pass
          (sight.link.connection taken.waiting.conn) (sight.link.connection h.kept.conn) h.kept.served h.kept.served.place refl
          (h.serves files made.made)) in
          subst (IsWornWithin new.pass.highest) (sym h.worn_is)
          (worn_later new.pass.highest now.worn (worn_of h.kept.served.how)
          (worn_higher now.pass.highest new.pass.highest now.worn up (had.worn_is made))
          (found_within new.pass.highest h.kept.served.how within));
      none_worn = λ none.
          let both = not_worn_now now.worn h.kept.served.how (sym h.worn_is ∙ none) in
          All-push (λ (c : Case L). IsNotWorn c.kept.served.how) cases c (had.none_worn both.0) both.1;
    }
  where
    highest_up : (old new : PassState) (rule place : Option ℕ) → Moves old new rule place → old.highest ≤ new.highest
    highest_up old new rule (Some place) moves = moves.enters.not_below
    highest_up old new rule None moves = moves.not_below

-- nothing is counted at first
pub none_counted : {L : Type 0} (tally : Tally) → tally ≡ record { presented = 0; accepted = 0; replayed = 0; expired = 0 } → Counted {L = L} [] tally
none_counted tally is = record {
  presented = ap (λ (t : Tally). t.presented) is;
  accepted = ap (λ (t : Tally). t.accepted) is;
  replayed = ap (λ (t : Tally). t.replayed) is;
  expired = ap (λ (t : Tally). t.expired) is;
}
