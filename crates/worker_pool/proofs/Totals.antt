-- What all workers have done together is the closing history.
use Rattle.std.proofs.Common.{◌≡◌, ℕ, ◌+◌, ◌^◌, ◌≤◌, ◌<◌, nat_eq, Bool, true, false, cond, ◌||◌, List, [], ◌∷◌, ◌++◌, length, take, Option, Some, None, sym, ap, ◌∙◌, refl, subst, arith, append_assoc, length-append}
use Rattle.std.specs.List.{All, AllZip, count_by, sum_by, slice_get, range_with_len, IsDistinct}
use Rattle.std.proofs.Math.Bool.{or-true}
use Rattle.std.proofs.lemmas.Bool.Decides.{Decides-eqb, nat_tests}
use Rattle.std.proofs.lemmas.List.{length-map}
use Rattle.std.proofs.lemmas.List.Elements.{All-nil, All-cons, All-head, All-tail, All-weaker}
use Rattle.std.proofs.lemmas.List.FromFn.{length-range_with_len}
use Rattle.std.proofs.lemmas.List.Sums.{sum_by-cons}
use mathlib.Core.Logic.{dite}
use native.Mathlib.Decide.{ℕ_discrete}
use Rattle.munge_types.specs.History.{accepted}
use Rattle.munge_types.specs.Pair.{pair_eq}
use Rattle.munge_types.specs.StandsFor.{Remembered, Stands}
use Rattle.munge_types.specs.declared.history.Event.{Event}
use Rattle.munge_types.specs.declared.history.Event.TheVariants.{Admit, Purge, Idle}
use Rattle.munge_types.specs.declared.history.Verdict.{Verdict}
use Rattle.munge_types.specs.declared.history.Verdict.TheVariants.{Accepted, Expired, Replayed}
use Rattle.decode_rules.specs.Terms.{terms_of}
use Rattle.replay_gate.specs.Makers.{maker, is_of, any_by}
use Rattle.replay_gate.specs.PassState.{PassState}
use Rattle.replay_gate.specs.Worn.{worn_at}
use Rattle.session_core.specs.Service.{service_of}
use Rattle.worker_pool.specs.Account.{at_place, made_by}
use Rattle.worker_pool.specs.Drawing.{AreBySix, done_by, drawn_of}
use Rattle.worker_pool.specs.Entering.{TellsRule}
use Rattle.worker_pool.specs.Joining.{Joined, lists_of, OnceEach}
use Rattle.worker_pool.specs.Pool.{Gathered, IsNotWorn, PoolRan, Tallies, is_at, left_of}
use Rattle.worker_pool.specs.Standing.{HasServed, Marks, Worked, weigh}
use Rattle.worker_pool.specs.Tally.{IsTallyOf, is_look_up, is_said, tells, tells_look_up, times_said}
use Rattle.worker_pool.specs.Work.{IsMade, Work, seed_of}
use Rattle.worker_pool.specs.declared.job.Done.{Done}
use Rattle.worker_pool.specs.declared.pool.Batch.{Batch}
use Rattle.worker_pool.specs.declared.tally.Tally.{Tally}
use Rattle.worker_pool.proofs.Account.{take_front}
use Rattle.worker_pool.proofs.Accounts.{served_higher}
use Rattle.worker_pool.proofs.Tells.{unworn}

-- ---- sums

pub sum_same : {A : Type 0} (f g : A → ℕ) → ((x : A) → f x ≡ g x) → (xs : List A) → sum_by f xs ≡ sum_by g xs
sum_same f g same [] = refl
sum_same f g same (x ∷ xs) =
    let here = same x in
    let rest = sum_same f g same xs in
    let one = sum_by-cons f x xs in
    let two = sum_by-cons g x xs in omega arith

sum_none : {A : Type 0} (xs : List A) → sum_by (λ x. 0) xs ≡ 0
sum_none [] = refl
sum_none {A} (x ∷ xs) = let rest = sum_none xs in let one = sum_by-cons (λ (y : A). 0) x xs in omega arith

sum_both : {A : Type 0} (f g : A → ℕ) (xs : List A) → sum_by (λ x. f x + g x) xs ≡ sum_by f xs + sum_by g xs
sum_both f g [] = refl
sum_both {A} f g (x ∷ xs) =
    let rest = sum_both f g xs in
    let one = sum_by-cons f x xs in
    let two = sum_by-cons g x xs in
    let both = sum_by-cons (λ (y : A). f y + g y) x xs in omega arith

-- where none passes, and where just one does
sum_never : {A : Type 0} (p : A → Bool) (w : ℕ) (xs : List A) → count_by p xs ≡ 0 → sum_by (λ x. cond (p x) w 0) xs ≡ 0
sum_never p w [] none = refl
sum_never {A} p w (x ∷ xs) none = by_case (p x) refl (sum_never p w xs)
  where
    by_case : (b : Bool) → p x ≡ b → (count_by p xs ≡ 0 → sum_by (λ x. cond (p x) w 0) xs ≡ 0) → sum_by (λ x. cond (p x) w 0) (x ∷ xs) ≡ 0
    by_case true e more =
        let one : cond {A = ℕ} (p x) 1 0 ≡ 1 = ap (λ b. cond {A = ℕ} b 1 0) e in
        absurd (let n = sum_by-cons (λ (y : A). cond {A = ℕ} (p y) 1 0) x xs in omega arith)
    by_case false e more =
        let one : cond {A = ℕ} (p x) 1 0 ≡ 0 = ap (λ b. cond {A = ℕ} b 1 0) e in
        let here : cond {A = ℕ} (p x) w 0 ≡ 0 = ap (λ b. cond {A = ℕ} b w 0) e in
        let n = sum_by-cons (λ (y : A). cond {A = ℕ} (p y) 1 0) x xs in
        let m = sum_by-cons (λ (y : A). cond {A = ℕ} (p y) w 0) x xs in
        let none_left : count_by p xs ≡ 0 = omega arith in
        let rest = more none_left in omega arith

sum_once : {A : Type 0} (p : A → Bool) (w : ℕ) (xs : List A) → count_by p xs ≡ 1 → sum_by (λ x. cond (p x) w 0) xs ≡ w
sum_once p w [] one = absurd (omega arith)
sum_once {A} p w (x ∷ xs) once = by_case (p x) refl (sum_once p w xs)
  where
    by_case : (b : Bool) → p x ≡ b → (count_by p xs ≡ 1 → sum_by (λ x. cond (p x) w 0) xs ≡ w) → sum_by (λ x. cond (p x) w 0) (x ∷ xs) ≡ w
    by_case true e more =
        let one : cond {A = ℕ} (p x) 1 0 ≡ 1 = ap (λ b. cond {A = ℕ} b 1 0) e in
        let here : cond {A = ℕ} (p x) w 0 ≡ w = ap (λ b. cond {A = ℕ} b w 0) e in
        let n = sum_by-cons (λ (y : A). cond {A = ℕ} (p y) 1 0) x xs in
        let m = sum_by-cons (λ (y : A). cond {A = ℕ} (p y) w 0) x xs in
        let none_left : count_by p xs ≡ 0 = omega arith in
        let rest = sum_never p w xs none_left in omega arith
    by_case false e more =
        let one : cond {A = ℕ} (p x) 1 0 ≡ 0 = ap (λ b. cond {A = ℕ} b 1 0) e in
        let here : cond {A = ℕ} (p x) w 0 ≡ 0 = ap (λ b. cond {A = ℕ} b w 0) e in
        let n = sum_by-cons (λ (y : A). cond {A = ℕ} (p y) 1 0) x xs in
        let m = sum_by-cons (λ (y : A). cond {A = ℕ} (p y) w 0) x xs in
        let one_left : count_by p xs ≡ 1 = omega arith in
        let rest = more one_left in omega arith

-- ---- a whole history

-- the weight of all places of a history that begins at a place
abbrev pub all_places : (ℕ → ℕ) → ℕ → List Event → ℕ
all_places weight at [] = 0
all_places weight at (event ∷ events) = weight at + all_places weight (at + 1) events

-- each entry is just one number's
pub total : (weight : ℕ → ℕ) (numbers : List ℕ) (at : ℕ) (history : List Event) → OnceEach numbers
    → ((number : ℕ) → any_by (number ∷ []) history ≡ true → is_of numbers number ≡ true)
    → sum_by (λ n. made_by weight n at history) numbers ≡ all_places weight at history
total weight numbers at [] once made = sum_none numbers
total weight numbers at (event ∷ events) once made =
    let m = maker event in
    let itself : is_of (m ∷ []) m ≡ true = ap (λ b. b || false) ((Decides-eqb m m).1 refl) in
    let has = made m (ap (λ b. b || any_by (m ∷ []) events) itself) in
    let one = sum_once (nat_eq m) (weight at) numbers (once m has) in
    let rest = total weight numbers (at + 1) events once
    (λ number by. made number (ap (λ b. is_of (number ∷ []) m || b) by ∙ or-true (is_of (number ∷ []) m))) in
    let both = sum_both (λ n. cond (nat_eq m n) (weight at) 0) (λ n. made_by weight n (at + 1) events) numbers in
    omega arith

pub all_ones : (at : ℕ) (history : List Event) → all_places (λ k. 1) at history ≡ length history
all_ones at [] = refl
all_ones at (event ∷ events) = let rest = all_ones (at + 1) events in omega arith

past : (place at : ℕ) (history : List Event) → place < at → all_places (λ k. cond (nat_eq place k) 1 0) at history ≡ 0
past place at [] below = refl
past place at (event ∷ events) below =
    let rest = past place (at + 1) events (omega arith) in
    let here : cond {A = ℕ} (nat_eq place at) 1 0 ≡ 0 = grind (arith, nat_tests) in
    omega arith

pub just_one : (place at : ℕ) (history : List Event) → at ≤ place → place < at + length history
    → all_places (λ k. cond (nat_eq place k) 1 0) at history ≡ 1
just_one place at [] low high = absurd (omega arith)
just_one place at (event ∷ events) low high =
    dite (ℕ_discrete place at)
    (λ same.
    let here : cond {A = ℕ} (nat_eq place at) 1 0 ≡ 1 = grind (arith, nat_tests) in
    let rest = past place (at + 1) events (omega arith) in omega arith)
    (λ other.
    let here : cond {A = ℕ} (nat_eq place at) 1 0 ≡ 0 = grind (arith, nat_tests) in
    let rest = just_one place (at + 1) events (omega arith) (omega arith) in omega arith)

-- ---- a team

team_weighs : {L C : Type 0} (work : Work L C) (seen : List Event) (bound : ℕ) (weight : ℕ → ℕ) (numbers : List ℕ) (done : List (List (Done L C)))
    → AllZip (λ n d. Worked work n seen bound d) numbers done → sum_by (weigh weight) done ≡ sum_by (λ n. made_by weight n 0 seen) numbers
team_weighs work seen bound weight [] [] all = refl
team_weighs work seen bound weight [] (d ∷ ds) all = absurd all
team_weighs work seen bound weight (n ∷ ns) [] all = absurd all
team_weighs {L} {C} work seen bound weight (n ∷ ns) (d ∷ ds) all =
    let here = all.0.account weight in
    let rest = team_weighs work seen bound weight ns ds all.1 in
    let one = sum_by-cons (λ (l : List (Done L C)). weigh weight l) d ds in
    let two = sum_by-cons (λ m. made_by weight m 0 seen) n ns in omega arith

batches_weigh : {L C : Type 0} (weight : Done L C → ℕ) (batches : List (Batch L C))
    → sum_by (λ l. sum_by weight l) (lists_of batches) ≡ sum_by (λ b. sum_by weight b.done.items) batches
batches_weigh weight [] = refl
batches_weigh {L} {C} weight (b ∷ bs) =
    let rest = batches_weigh weight bs in
    let one = sum_by-cons (λ (l : List (Done L C)). sum_by weight l) b.done.items (lists_of bs) in
    let two = sum_by-cons (λ (b : Batch L C). sum_by weight b.done.items) b bs in omega arith

team_served : {L C : Type 0} (work : Work L C) (seen : List Event) (bound : ℕ) (numbers : List ℕ) (batches : List (Batch L C))
    → AllZip (λ n d. Worked work n seen bound d) numbers (lists_of batches) → All (λ b. All (HasServed work seen bound) b.done.items) batches
team_served {L} {C} work seen bound [] [] all = All-nil (λ (b : Batch L C). All (HasServed work seen bound) b.done.items)
team_served work seen bound [] (b ∷ bs) all = absurd all
team_served work seen bound (n ∷ ns) [] all = absurd all
team_served {L} {C} work seen bound (n ∷ ns) (b ∷ bs) all =
    All-cons (λ (b : Batch L C). All (HasServed work seen bound) b.done.items) b bs all.0.each (team_served work seen bound ns bs all.1)

-- ---- places

pub at_test : (place : ℕ) (o : Option ℕ) → cond {A = ℕ} (is_at place o) 1 0 ≡ at_place (λ k. cond (nat_eq place k) 1 0) o
at_test place None = refl
at_test place (Some k) = refl

pub sum_as : {A : Type 0} (P : A → Type 0) (f g : A → ℕ) → ((x : A) → P x → f x ≡ g x) → (xs : List A) → All P xs → sum_by f xs ≡ sum_by g xs
sum_as P f g same [] all = refl
sum_as P f g same (x ∷ xs) all =
    let here = same x (All-head P x xs all) in
    let rest = sum_as P f g same xs (All-tail P x xs all) in
    let one = sum_by-cons f x xs in
    let two = sum_by-cons g x xs in omega arith

pub places_range : (weight : ℕ → ℕ) (at : ℕ) (history : List Event) → all_places weight at history ≡ sum_by weight (range_with_len at (length history))
places_range weight at [] = refl
places_range weight at (event ∷ events) =
    let rest = places_range weight (at + 1) events in
    let one = sum_by-cons weight at (range_with_len (at + 1) (length events)) in omega arith

-- ---- the tally

pub get_there : {A : Type 0} (xs ys : List A) (x : A) → slice_get (xs ++ x ∷ ys) (length xs) ≡ Some x
get_there [] ys x = refl
get_there (y ∷ xs) ys x = get_there xs ys x

-- the entry is a look-up
pub looked_up : Option Event → Bool
looked_up None = false
looked_up (Some event) = is_look_up event

pub purge_not_looked : (pass moment : ℕ) → looked_up (Some (Purge pass moment)) ≡ false
unfolding looked_up
purge_not_looked pass moment = refl

-- what is told of an entry says what it is
told_said : (before : List Event) (entry : Event) (rule : Option ℕ) (place : ℕ) (said : Verdict) → TellsRule before entry rule
    → tells said (Some place) rule ≡ is_said said before (Some entry)
told_said before (Admit pass pair moment) rule place said told = ap (tells said (Some place)) told
told_said before (Idle pass) rule place said told = ap (tells said (Some place)) told
told_said before (Purge pass moment) rule place said told = absurd told

told_looked : (before : List Event) (entry : Event) (rule : Option ℕ) (place : ℕ) → TellsRule before entry rule
    → tells_look_up (Some place) rule ≡ is_look_up entry
told_looked before (Admit pass pair moment) rule place told = ap (tells_look_up (Some place)) told
told_looked before (Idle pass) rule place told = ap (tells_look_up (Some place)) told
told_looked before (Purge pass moment) rule place told = absurd told

pub said_at : (number : ℕ) (seen : List Event) (rule place : Option ℕ) (said : Verdict) → Marks number seen rule place
    → cond {A = ℕ} (tells said place rule) 1 0 ≡ at_place (λ k. cond (is_said said (take k seen) (slice_get seen k)) 1 0) place
said_at number seen rule None said marks = refl
said_at number seen rule (Some place) said marks =
    let before = marks.before in
    let entry = marks.entry in
    let front : take place seen ≡ before =
    ap (λ l. take place l) marks.history_is ∙ (ap (λ k. take k (before ++ entry ∷ marks.others)) marks.place_is ∙ take_front before (entry ∷ marks.others)) in
    let there : slice_get seen place ≡ Some entry =
    ap (λ l. slice_get l place) marks.history_is ∙ (ap (λ k. slice_get (before ++ entry ∷ marks.others) k) marks.place_is ∙ get_there before marks.others entry) in
    ap (λ b. cond {A = ℕ} b 1 0)
    (told_said before entry rule place said marks.told
    ∙ (ap (λ l. is_said said l (Some entry)) (sym front) ∙ ap (λ o. is_said said (take place seen) o) (sym there)))

pub looked_at : (number : ℕ) (seen : List Event) (rule place : Option ℕ) → Marks number seen rule place
    → cond {A = ℕ} (tells_look_up place rule) 1 0 ≡ at_place (λ k. cond (looked_up (slice_get seen k)) 1 0) place
unfolding looked_up
looked_at number seen rule None marks = refl
looked_at number seen rule (Some place) marks =
    let before = marks.before in
    let entry = marks.entry in
    let there : slice_get seen place ≡ Some entry =
    ap (λ l. slice_get l place) marks.history_is ∙ (ap (λ k. slice_get (before ++ entry ∷ marks.others) k) marks.place_is ∙ get_there before marks.others entry) in
    ap (λ b. cond {A = ℕ} b 1 0) (told_looked before entry rule place marks.told ∙ ap looked_up (sym there))

pub look_ups : (seen front events : List Event) (at : ℕ) → seen ≡ front ++ events → at ≡ length front
    → all_places (λ k. cond (looked_up (slice_get seen k)) 1 0) at events ≡ count_by is_look_up events
unfolding looked_up
look_ups seen front [] at is here = refl
look_ups seen front (event ∷ events) at is here =
    let there : slice_get seen at ≡ Some event =
    ap (λ l. slice_get l at) is ∙ (ap (λ k. slice_get (front ++ event ∷ events) k) here ∙ get_there front events event) in
    let one : cond {A = ℕ} (looked_up (slice_get seen at)) 1 0 ≡ cond (is_look_up event) 1 0 = ap (λ o. cond {A = ℕ} (looked_up o) 1 0) there in
    let rest = look_ups seen (front ++ event ∷ []) events (at + 1) (is ∙ sym (append_assoc front (event ∷ []) events))
    (ap (λ k. k + 1) here ∙ sym (length-append front (event ∷ []))) in
    let sum = sum_by-cons (λ (e : Event). cond {A = ℕ} (is_look_up e) 1 0) event events in omega arith

module _ {L C : Type 0} (work : Work L C) (seen : List Event) (bound : ℕ) (done : List (Done L C)) (each : All (HasServed work seen bound) done)
    (weighs : (weight : ℕ → ℕ) → weigh weight done ≡ all_places weight 0 seen) where
  told_times : (said : Verdict) → count_by (λ d. tells said d.served.place d.served.rule) done ≡ times_said said seen
  told_times said =
      let weight : ℕ → ℕ = λ k. cond (is_said said (take k seen) (slice_get seen k)) 1 0 in
      sum_as (HasServed work seen bound) (λ (d : Done L C). cond {A = ℕ} (tells said d.served.place d.served.rule) 1 0)
      (λ (d : Done L C). at_place weight d.served.place)
      (λ d h. said_at d.pass seen d.served.rule d.served.place said h.marks) done each
      ∙ (weighs weight ∙ places_range weight 0 seen)

  told_look_ups : count_by (λ d. tells_look_up d.served.place d.served.rule) done ≡ count_by is_look_up seen
  unfolding looked_up
  told_look_ups =
      let weight : ℕ → ℕ = λ k. cond (looked_up (slice_get seen k)) 1 0 in
      sum_as (HasServed work seen bound) (λ (d : Done L C). cond {A = ℕ} (tells_look_up d.served.place d.served.rule) 1 0)
      (λ (d : Done L C). at_place weight d.served.place)
      (λ d h. looked_at d.pass seen d.served.rule d.served.place h.marks) done each
      ∙ (weighs weight ∙ look_ups seen [] seen 0 refl refl)

  tallied : (tally : Tally) → Tallies done tally → IsTallyOf seen tally
  tallied tally tallies = record {
    presented = tallies.presented ∙ told_look_ups;
    accepted = tallies.accepted ∙ told_times Accepted;
    replayed = tallies.replayed ∙ told_times Replayed;
    expired = tallies.expired ∙ told_times Expired;
  }

-- ---- the pool

served_unworn : {L C : Type 0} (work : Work L C) (seen : List Event) (bound : ℕ) (done : Done L C) → IsMade work.world → bound < worn_at
    → HasServed work seen bound done → IsNotWorn done.served.how
served_unworn work seen bound done made below h =
    unworn (service_of (terms_of work.world h.job.who made.files) (seed_of work done.job) done.pass) seen bound
    (work.sight.connection h.job.conn) (work.sight.connection done.conn) done.served done.served.place below (h.stands made.files made.made)

at_most_one : (o : Option ℕ) → at_place (λ k. 1) o ≤ 1
at_most_one None = omega arith
at_most_one (Some k) = omega arith

few_places : {L C : Type 0} (done : List (Done L C)) → weigh (λ k. 1) done ≤ length done
few_places [] = omega arith
few_places {L} {C} (d ∷ done) =
    let rest = few_places done in
    let one = at_most_one d.served.place in
    let sum = sum_by-cons (λ (d : Done L C). at_place (λ k. 1) d.served.place) d done in omega arith

-- the numbers of the first pass and of the workers: the first has made nothing
pub pool_ran : {L C : Type 0} (work : Work L C) (pass : PassState) (batches : List (Batch L C)) (done : List (Done L C)) (tally : Tally)
    (entries : ℕ) (state : Remembered) → IsMade work.world → length batches ≡ length work.seeds
    → Joined work (length batches) 0 pass batches → ((number : ℕ) → any_by (number ∷ []) pass.seen ≡ true → is_of pass.numbers number ≡ true)
    → pass.highest ≤ length pass.seen → entries ≡ length pass.seen → Stands state pass.seen → IsDistinct pair_eq (accepted pass.seen)
    → Gathered (length work.jobs) batches done → Tallies done tally → length work.jobs < 2 ^ 32
    → PoolRan work (left_of done tally entries state)
pool_ran {L} {C} work pass batches done tally entries state world_made many joined made highest length_is stands once gathered tallies few =
    let seen = pass.seen in
    let team = joined.team in
    let weighs : (weight : ℕ → ℕ) → weigh weight done ≡ all_places weight 0 seen = λ weight.
    let a = gathered.weighs (λ d. at_place weight d.served.place) in
    let b = batches_weigh (λ (d : Done L C). at_place weight d.served.place) batches in
    let c = team_weighs work seen pass.highest weight pass.numbers ([] ∷ lists_of batches) (team.each world_made) in
    let d = sum_by-cons (λ (l : List (Done L C)). weigh weight l) [] (lists_of batches) in
    let e = total weight pass.numbers 0 seen team.once made in
    omega arith in
    let all : length done ≡ length work.jobs =
    sym (length-map done (λ (d : Done L C). d.job)) ∙ (ap length gathered.in_order ∙ length-range_with_len 0 (length work.jobs)) in
    let below : entries < worn_at = (let most = few_places done in let ones = weighs (λ k. 1) in let count = all_ones 0 seen in omega arith) in
    let served : All (λ b. All (HasServed work seen pass.highest) b.done.items) batches = rest_served pass.numbers (team.each world_made) in
    let each : All (HasServed work seen entries) done =
    All-weaker (HasServed work seen pass.highest) (HasServed work seen entries) (λ d h. served_higher work seen pass.highest entries d (omega arith) h) done
    (gathered.each work seen pass.highest served) in record {
      history = seen;
      entries_is = length_is;
      stands = stands;
      once = once;
      in_order = gathered.in_order;
      each = each;
      made = λ place within.
          sum_same (λ (d : Done L C). cond {A = ℕ} (is_at place d.served.place) 1 0) (λ (d : Done L C). at_place (λ k. cond (nat_eq place k) 1 0) d.served.place)
          (λ d. at_test place d.served.place) done
          ∙ (weighs (λ k. cond (nat_eq place k) 1 0) ∙ just_one place 0 seen (omega arith) (omega arith));
      drawn = λ worker within. drawn_at worker (omega arith);
      not_worn = All-weaker (HasServed work seen entries) (λ (d : Done L C). IsNotWorn d.served.how)
          (λ d h. served_unworn work seen entries d world_made below h) done each;
      tallied = tallied work seen entries done each weighs tally tallies;
    }
  where
    rest_served : (numbers : List ℕ) → AllZip (λ n d. Worked work n pass.seen pass.highest d) numbers ([] ∷ lists_of batches)
        → All (λ b. All (HasServed work pass.seen pass.highest) b.done.items) batches
    rest_served [] all = absurd all
    rest_served (n ∷ ns) all = team_served work pass.seen pass.highest ns batches all.1

    of_batch : (bs : List (Batch L C)) → bs ≡ batches → (worker : ℕ) → worker < length batches
        → AreBySix (drawn_of (done_by worker (length batches) done))
    of_batch [] is worker within = absurd (let n = ap length is in omega arith)
    of_batch (b ∷ bs) is worker within =
        subst (λ (l : List (Done L C)). AreBySix (drawn_of l)) (sym (gathered.by_worker worker b within)) (joined.by_six worker b (omega arith) within)

    drawn_at : (worker : ℕ) → worker < length batches → AreBySix (drawn_of (done_by worker (length work.seeds) done))
    drawn_at worker within = subst (λ n. AreBySix (drawn_of (done_by worker n done))) many (of_batch batches refl worker within)
