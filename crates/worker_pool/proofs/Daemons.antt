-- What a daemon's pool leaves.
use Rattle.std.proofs.Common.{◌≡◌, ℕ, ◌+◌, ◌-◌, ◌<◌, ◌≤◌, ◌^◌, nat_eq, Bool, true, false, cond, ◌||◌, ◌&&◌, List, [], ◌∷◌, ◌++◌, length, map, reverse, take, get_or, zero, suc, Option, Some, None, sym, ap, ◌∙◌, refl, subst, arith, append_assoc, length-append}
use Rattle.std.specs.List.{All, IsDistinct, count_by, range_with_len, slice_get, sum_by}
use Rattle.std.specs.List.Sorted.{IsPermutation}
use Rattle.std.specs.Prelude.{flat_map}
use Rattle.std.proofs.Math.Bool.{or-true}
use Rattle.std.proofs.lemmas.Bool.{true≢false}
use Rattle.std.proofs.lemmas.Bool.Decides.{Decides-eqb, nat_tests}
use Rattle.std.proofs.lemmas.List.{get_or-map, length-map, reverse-append, reverse-reverse}
use Rattle.std.proofs.lemmas.List.Elements.{All-cons, All-head, All-map, All-nil, All-tail, All-weaker}
use Rattle.std.proofs.lemmas.List.Sorted.{All-permutation, IsPermutation-append, IsPermutation-refl, IsPermutation-trans, sum_by-IsPermutation}
use Rattle.std.proofs.lemmas.List.FromFn.{length-range_with_len}
use Rattle.std.proofs.lemmas.List.Concat.{flat_map-cons}
use Rattle.std.proofs.lemmas.List.Sums.{sum_by-append, sum_by-cons}
use mathlib.Core.Logic.{dite}
use native.Mathlib.Decide.{ℕ_discrete}
use Rattle.decode_rules.specs.declared.world.World.{World}
use Rattle.munge_types.specs.History.{accepted}
use Rattle.munge_types.specs.Pair.{pair_eq}
use Rattle.munge_types.specs.StandsFor.{Stands}
use Rattle.munge_types.specs.declared.history.Event.{Event}
use Rattle.munge_types.specs.declared.history.Event.TheVariants.{Admit, Idle, Purge}
use Rattle.munge_types.specs.declared.history.Verdict.{Verdict}
use Rattle.munge_types.specs.declared.history.Verdict.TheVariants.{Accepted, Expired, Replayed}
use Rattle.replay_gate.specs.Makers.{AreMadeBy, any_by, is_of, maker}
use Rattle.replay_gate.specs.PassState.{GateId, PassState}
use Rattle.worker_pool.specs.Account.{at_place, made_by}
use Rattle.worker_pool.specs.Cases.{Bench, Case, HasHandled, bench_of, entry_of}
use Rattle.worker_pool.specs.Closing.{Career, IsCareer, WorkedAll, taken_in}
use Rattle.worker_pool.specs.Daemon.{DaemonRan, DaemonSight, Given, HandedBack, PurgerRan, Told, Worker, WorkerRan, taken_by_worker}
use Rattle.worker_pool.specs.Desks.{DeskSight, HasWorked, Works, later_of}
use Rattle.worker_pool.specs.Joining.{OnceEach}
use Rattle.worker_pool.specs.Meeting.{CountedAll, IsMetInto, latest}
use Rattle.worker_pool.specs.Pool.{IsNotWorn, is_at}
use Rattle.std.specs.Io.KnownBytes.{Consumes}
use Rattle.worker_pool.specs.Purging.{HasTicked, PurgesStand, Spends}
use Rattle.worker_pool.specs.Single.{AreNoPurges, ArePurges, IsWornWithin, RoseBy, capped, is_purge}
use Rattle.worker_pool.specs.Tally.{IsTallyOf, is_look_up, is_said, tells, times_said}
use Rattle.worker_pool.specs.Tallying.{looks_up}
use Rattle.worker_pool.specs.Turns.{IsGiven, is_kept, is_left, is_turn}
use Rattle.worker_pool.specs.Work.{IsMade}
use Rattle.worker_pool.specs.declared.desk.Desk.{Desk}
use Rattle.worker_pool.specs.declared.post.Queued.{Queued}
use Rattle.worker_pool.specs.declared.post.Waiting.{Waiting}
use Rattle.worker_pool.specs.declared.purger.Purger.{Purger}
use Rattle.worker_pool.specs.declared.tally.Tally.{Tally}
use Rattle.worker_pool.proofs.Closings.{flat_of_map, flat_reversed, map_map}
use Rattle.worker_pool.proofs.Desks.{worn_higher, worn_later}
use Rattle.worker_pool.proofs.Gathers.{All-reverse, map-reverse}
use Rattle.worker_pool.proofs.Handlings.{handled_higher, works_longer}
use Rattle.worker_pool.proofs.Purging.{all_purges, purges_longer}
use Rattle.worker_pool.proofs.Totals.{all_places, at_test, get_there, just_one, look_ups, looked_at, looked_up, purge_not_looked, places_range, said_at, sum_as, sum_same, total}
use Rattle.worker_pool.proofs.Turns.{given_put, once_put}

-- ---- entries at their places

made_past : (number place at : ℕ) (history : List Event) → place < at → made_by (λ k. cond (nat_eq place k) 1 0) number at history ≡ 0
made_past number place at [] below = refl
made_past number place at (event ∷ events) below =
    let rest = made_past number place (at + 1) events (omega arith) in
    let here : cond {A = ℕ} (nat_eq place at) 1 0 ≡ 0 = grind (arith, nat_tests) in
    let zero_here : cond {A = ℕ} (nat_eq (maker event) number) (cond (nat_eq place at) 1 0) 0 ≡ 0 =
    elim (nat_eq (maker event) number) as (λ b. cond {A = ℕ} b (cond (nat_eq place at) 1 0) 0 ≡ 0) [ true ↦ here | false ↦ refl ] in
    omega arith

-- a number that has not made the entry at a place counts nothing there
other_at : (number at i place : ℕ) (history : List Event) → place ≡ at + i → ((event : Event) → slice_get history i ≡ Some event → maker event ≡ number → ⊥)
    → made_by (λ k. cond (nat_eq place k) 1 0) number at history ≡ 0
other_at number at i place [] is other = refl
other_at number at zero place (event ∷ events) is other =
    let rest = made_past number place (at + 1) events (omega arith) in
    let apart : nat_eq (maker event) number ≡ false = elim (nat_eq (maker event) number) as (λ b. (b ≡ true → maker event ≡ number) → b ≡ false)
    [ true ↦ λ yes. absurd (other event refl (yes refl)) | false ↦ λ yes. refl ] (Decides-eqb (maker event) number).0 in
    let here : cond {A = ℕ} (nat_eq (maker event) number) (cond (nat_eq place at) 1 0) 0 ≡ 0 = ap (λ b. cond {A = ℕ} b (cond (nat_eq place at) 1 0) 0) apart in
    omega arith
other_at number at (suc i) place (event ∷ events) is other =
    let rest = other_at number (at + 1) i place events (omega arith) other in
    let here : cond {A = ℕ} (nat_eq place at) 1 0 ≡ 0 = grind (arith, nat_tests) in
    let zero_here : cond {A = ℕ} (nat_eq (maker event) number) (cond (nat_eq place at) 1 0) 0 ≡ 0 =
    elim (nat_eq (maker event) number) as (λ b. cond {A = ℕ} b (cond (nat_eq place at) 1 0) 0 ≡ 0) [ true ↦ here | false ↦ refl ] in
    omega arith

within_at : (history : List Event) (i : ℕ) (event : Event) → slice_get history i ≡ Some event → i < length history
within_at [] i event e = cc
within_at (x ∷ xs) zero event e = omega arith
within_at (x ∷ xs) (suc i) event e = let h = within_at xs i event e in omega arith

made_at : (history : List Event) (k : ℕ) (d : Event) → k < length history → any_by (maker (get_or history k d) ∷ []) history ≡ true
made_at [] k d within = absurd (omega arith)
made_at (event ∷ events) zero d within =
    let itself : is_of (maker event ∷ []) (maker event) ≡ true = ap (λ b. b || false) ((Decides-eqb (maker event) (maker event)).1 refl) in
    ap (λ b. b || any_by (maker event ∷ []) events) itself
made_at (event ∷ events) (suc k) d within =
    let rest = made_at events k d (omega arith) in
    ap (λ b. is_of (maker (get_or events k d) ∷ []) (maker event) || b) rest ∙ or-true (is_of (maker (get_or events k d) ∷ []) (maker event))

get_same : (history : List Event) (i : ℕ) (event : Event) → slice_get history i ≡ Some event → get_or history i event ≡ event
get_same [] i event e = cc
get_same (x ∷ xs) zero event e = cc
get_same (x ∷ xs) (suc i) event e = get_same xs i event e

-- what weighs nothing at a purge weighs nothing for a number whose entries are purges
purges_weigh : (weight : Option Event → ℕ) → ((pass moment : ℕ) → weight (Some (Purge pass moment)) ≡ 0) → (number : ℕ) (seen front events : List Event) (at : ℕ)
    → seen ≡ front ++ events → at ≡ length front → ArePurges number events → made_by (λ k. weight (slice_get seen k)) number at events ≡ 0
purges_weigh weight none number seen front [] at is here only = refl
purges_weigh weight none number seen front (event ∷ events) at is here only =
    let there : slice_get seen at ≡ Some event =
    ap (λ l. slice_get l at) is ∙ (ap (λ k. slice_get (front ++ event ∷ events) k) here ∙ get_there front events event) in
    let one : cond {A = ℕ} (nat_eq (maker event) number) (weight (slice_get seen at)) 0 ≡ 0 =
    by_case (nat_eq (maker event) number) (λ yes. All-head (λ (e : Event). maker e ≡ number → is_purge e ≡ true) event events only ((Decides-eqb (maker event) number).0 yes)) there in
    let rest = purges_weigh weight none number seen (front ++ event ∷ []) events (at + 1) (is ∙ sym (append_assoc front (event ∷ []) events))
    (ap (λ k. k + 1) here ∙ sym (length-append front (event ∷ []))) (All-tail (λ (e : Event). maker e ≡ number → is_purge e ≡ true) event events only) in
    omega arith
  where
    purge_none : (e : Event) → is_purge e ≡ true → weight (Some e) ≡ 0
    purge_none (Admit pass pair moment) no_purge = absurd (true≢false (sym no_purge))
    purge_none (Purge pass moment) purge = none pass moment
    purge_none (Idle pass) no_purge = absurd (true≢false (sym no_purge))

    by_case : (b : Bool) → (b ≡ true → is_purge event ≡ true) → slice_get seen at ≡ Some event → cond {A = ℕ} b (weight (slice_get seen at)) 0 ≡ 0
    by_case true purge there = ap weight there ∙ purge_none event (purge refl)
    by_case false purge there = refl

-- ---- careers, when all passes have met

sum_reversed : {A : Type 0} (f : A → ℕ) (xs : List A) → sum_by f (reverse xs) ≡ sum_by f xs
sum_reversed f [] = refl
sum_reversed f (x ∷ xs) =
    let rest = sum_reversed f xs in
    let a = sum_by-append f (reverse xs) (x ∷ []) in
    let b = sum_by-cons f x xs in
    let c = sum_by-cons f x [] in
    ap (sum_by f) (reverse-append (x ∷ []) xs) ∙ omega arith

sum_flat_map : {A B : Type 0} (f : B → ℕ) (g : A → List B) (xs : List A) → sum_by f (flat_map g xs) ≡ sum_by (λ x. sum_by f (g x)) xs
sum_flat_map f g [] = refl
sum_flat_map f g (x ∷ xs) =
    let rest = sum_flat_map f g xs in
    let a = sum_by-append f (g x) (flat_map g xs) in
    let b = sum_by-cons (λ (x : _). sum_by f (g x)) x xs in
    ap (sum_by f) (flat_map-cons g x xs) ∙ omega arith

sum_mapped : {A B : Type 0} (f : B → ℕ) (g : A → B) (xs : List A) → sum_by f (map g xs) ≡ sum_by (λ x. f (g x)) xs
sum_mapped f g [] = refl
sum_mapped f g (x ∷ xs) =
    let rest = sum_mapped f g xs in
    let a = sum_by-cons f (g x) (map g xs) in
    let b = sum_by-cons (λ (x : _). f (g x)) x xs in omega arith

capped_sum : {A : Type 0} (f g : A → ℕ) (xs : List A) → All (λ x. f x ≡ capped (g x)) xs → capped (sum_by f xs) ≡ capped (sum_by g xs)
capped_sum f g [] all = refl
capped_sum f g (x ∷ xs) all =
    let rest = capped_sum f g xs (All-tail (λ (x : _). f x ≡ capped (g x)) x xs all) in
    let here = All-head (λ (x : _). f x ≡ capped (g x)) x xs all in
    let a = sum_by-cons f x xs in
    let b = sum_by-cons g x xs in omega arith

count_few : {A : Type 0} (p : A → Bool) (xs : List A) → count_by p xs ≤ length xs
count_few p [] = omega arith
count_few {A} p (x ∷ xs) =
    let rest = count_few p xs in
    let a = sum_by-cons (λ (y : A). cond {A = ℕ} (p y) 1 0) x xs in
    let one : cond {A = ℕ} (p x) 1 0 ≤ 1 = elim (p x) as (λ b. cond {A = ℕ} b 1 0 ≤ 1) [ true ↦ omega arith | false ↦ omega arith ] in omega arith

latest_within : (bound : ℕ) (first : Option ℕ) (others : List (Option ℕ)) → IsWornWithin bound first → All (IsWornWithin bound) others
    → IsWornWithin bound (latest first others)
latest_within bound first [] within all = within
latest_within bound first (one ∷ others) within all =
    latest_within bound (later_of first one) others (worn_later bound first one within (All-head (IsWornWithin bound) one others all))
    (All-tail (IsWornWithin bound) one others all)

later_none : (first one : Option ℕ) → later_of first one ≡ None → (first ≡ None) × (one ≡ None)
later_none first None none = (none, refl)
later_none first (Some ticket) none = absurd (cc)

latest_none : (first : Option ℕ) (others : List (Option ℕ)) → latest first others ≡ None → (first ≡ None) × All (λ o. o ≡ None) others
latest_none first [] none = (none, All-nil (λ (o : Option ℕ). o ≡ None))
latest_none first (one ∷ others) none =
    let rest = latest_none (later_of first one) others none in
    let both = later_none first one rest.0 in (both.0, All-cons (λ (o : Option ℕ). o ≡ None) one others both.1 rest.1)

unmapped : {X Y : Type 0} (P : Y → Type 0) (f : X → Y) (xs : List X) → All P (map f xs) → All (λ x. P (f x)) xs
unmapped P f [] all k d within = absurd (omega arith)
unmapped P f (x ∷ xs) all zero d within = All-head P (f x) (map f xs) all
unmapped P f (x ∷ xs) all (suc k) d within = unmapped P f xs (All-tail P (f x) (map f xs) all) k d (omega arith)

All-both : {X : Type 0} (P Q : X → Type 0) (xs : List X) → All P xs → All Q xs → All (λ x. P x × Q x) xs
All-both P Q xs ps qs k d within = (ps k d within, qs k d within)

worker_of : {L C B : Type 0} → Career L C B → Worker L
worker_of career = record { number = career.last.pass.number; cases = career.cases }

-- a career whose pass was met into this one
record IsOver {L C B : Type 0} (sight : DeskSight L C B) (world : World) (all : PassState) (career : Career L C B) : Type 0 where
  worked : HasWorked sight world career.first career.last career.cases
  met : IsMetInto all career.last.pass

module _ {L C B : Type 0} (sight : DeskSight L C B) (world : World) (made : IsMade world) (all : PassState) where
  works_all : (career : Career L C B) → IsOver sight world all career
      → Works (bench_of sight.link world career.first.dice.seed) career.last.pass.number all.seen all.highest career.cases
  works_all career over =
      works_longer (bench_of sight.link world career.first.dice.seed) career.last.pass.number career.last.pass.seen all.seen
      career.last.pass.highest all.highest career.cases over.met.not_below over.met.goes_on (over.worked.works made)

  careers_weigh : (weight : ℕ → ℕ) (careers : List (Career L C B)) → All (IsOver sight world all) careers
      → sum_by (λ w. sum_by (λ c. at_place weight (entry_of c)) w.cases) careers ≡ sum_by (λ n. made_by weight n 0 all.seen) (map (λ w. w.last.pass.number) careers)
  careers_weigh weight [] over = refl
  careers_weigh weight (w ∷ careers) over =
      let mine = (works_all w (All-head (IsOver sight world all) w careers over)).account.account weight in
      let rest = careers_weigh weight careers (All-tail (IsOver sight world all) w careers over) in
      let one = sum_by-cons (λ (w : Career L C B). sum_by (λ (c : Case L). at_place weight (entry_of c)) w.cases) w careers in
      let two = sum_by-cons (λ n. made_by weight n 0 all.seen) w.last.pass.number (map (λ (w : Career L C B). w.last.pass.number) careers) in omega arith

  -- no worker's entry is a purge
  worker_plain : (number : ℕ) (careers : List (Career L C B)) → All (IsOver sight world all) careers
      → is_of (map (λ w. w.last.pass.number) careers) number ≡ true → AreNoPurges number all.seen
  worker_plain number [] over has = absurd (true≢false (sym has))
  worker_plain number (w ∷ careers) over has =
      by_case (nat_eq number w.last.pass.number) refl has (λ h. worker_plain number careers (All-tail (IsOver sight world all) w careers over) h)
    where
      by_case : (b : Bool) → nat_eq number w.last.pass.number ≡ b → (b || is_of (map (λ (w : Career L C B). w.last.pass.number) careers) number) ≡ true
          → (is_of (map (λ (w : Career L C B). w.last.pass.number) careers) number ≡ true → AreNoPurges number all.seen) → AreNoPurges number all.seen
      by_case true e h rest =
          subst (λ m. AreNoPurges m all.seen) (sym ((Decides-eqb number w.last.pass.number).0 e))
          (works_all w (All-head (IsOver sight world all) w careers over)).no_purge
      by_case false e h rest = rest h

  worker_ran : (history : List Event) (bound : ℕ) (career : Career L C B) → history ≡ all.seen → all.highest ≤ bound → IsOver sight world all career
      → WorkerRan sight world history bound career.first.dice.seed career.first.clock career.last.clock career.last.book (worker_of career)
  unfolding worker_of
  worker_ran history bound career is below over =
      let bench : Bench L = bench_of sight.link world career.first.dice.seed in
      let own : career.last.pass.number ≡ career.first.pass.number = ap (λ (z : PassState). z.number) over.worked.pass in record {
        each = subst (λ l. All (HasHandled bench l bound) career.cases) (sym is)
            (All-weaker (HasHandled bench all.seen all.highest) (HasHandled bench all.seen bound) (λ c h. handled_higher bench all.seen all.highest bound c below h)
            career.cases (works_all career over).account.each);
        by_pass = subst (λ n. All (λ (c : Case L). c.kept.pass ≡ n) career.cases) (sym own) over.worked.by_pass;
        kept = over.worked.kept;
        drawn = over.worked.drawn;
        read = over.worked.read;
        given = over.worked.given;
        clock_failed = over.worked.clock_failed;
      }

  -- ---- posts and turns

  kept_as_taken : (p k : ℕ) (careers : List (Career L C B)) → All (IsOver sight world all) careers
      → sum_by (λ w. count_by (λ c. is_kept p k c.kept) w.cases) careers
      ≡ sum_by (λ w. sum_by (λ q. cond {A = ℕ} (is_turn p k q) 1 0) (taken_in w)) careers
  kept_as_taken p k careers over =
      sum_as (IsOver sight world all) (λ (w : Career L C B). count_by (λ (c : Case L). is_kept p k c.kept) w.cases)
      (λ (w : Career L C B). sum_by (λ (q : Queued L). cond {A = ℕ} (is_turn p k q) 1 0) (taken_in w))
      (λ w h.
      let bench : Bench L = bench_of sight.link world w.first.dice.seed in
      sum_as (HasHandled bench all.seen all.highest) (λ (c : Case L). cond {A = ℕ} (is_kept p k c.kept) 1 0)
      (λ (c : Case L). cond {A = ℕ} (is_turn p k c.taken) 1 0)
      (λ c is. ap (λ n. cond {A = ℕ} (nat_eq n p && nat_eq c.kept.turn k) 1 0) is.post_is
      ∙ ap (λ n. cond {A = ℕ} (nat_eq c.taken.waiting.post p && nat_eq n k) 1 0) is.turn_is) w.cases (works_all w h).account.each
      ∙ sym (sum_mapped (λ (q : Queued L). cond {A = ℕ} (is_turn p k q) 1 0) (λ (c : Case L). c.taken) w.cases)) careers over

  -- ---- the tally

  said_of : (said : Verdict) (careers : List (Career L C B)) → All (IsOver sight world all) careers
      → sum_by (λ w. count_by (λ c. tells said c.kept.served.place c.kept.served.rule) w.cases) careers
      ≡ sum_by (λ w. sum_by (λ c. at_place (λ k. cond (is_said said (take k all.seen) (slice_get all.seen k)) 1 0) (entry_of c)) w.cases) careers
  said_of said careers over =
      sum_as (IsOver sight world all) (λ (w : Career L C B). count_by (λ (c : Case L). tells said c.kept.served.place c.kept.served.rule) w.cases)
      (λ (w : Career L C B). sum_by (λ (c : Case L). at_place (λ k. cond (is_said said (take k all.seen) (slice_get all.seen k)) 1 0) (entry_of c)) w.cases)
      (λ w h.
      let bench : Bench L = bench_of sight.link world w.first.dice.seed in
      sum_as (HasHandled bench all.seen all.highest) (λ (c : Case L). cond {A = ℕ} (tells said c.kept.served.place c.kept.served.rule) 1 0)
      (λ (c : Case L). at_place (λ k. cond (is_said said (take k all.seen) (slice_get all.seen k)) 1 0) (entry_of c))
      (λ c k. said_at c.kept.pass all.seen c.kept.served.rule c.kept.served.place said k.marks) w.cases (works_all w h).account.each) careers over

  looked_of : (careers : List (Career L C B)) → All (IsOver sight world all) careers
      → sum_by (λ w. count_by looks_up w.cases) careers
      ≡ sum_by (λ w. sum_by (λ c. at_place (λ k. cond (looked_up (slice_get all.seen k)) 1 0) (entry_of c)) w.cases) careers
  looked_of careers over =
      sum_as (IsOver sight world all) (λ (w : Career L C B). count_by (looks_up {L = L}) w.cases)
      (λ (w : Career L C B). sum_by (λ (c : Case L). at_place (λ k. cond (looked_up (slice_get all.seen k)) 1 0) (entry_of c)) w.cases)
      (λ w h.
      let bench : Bench L = bench_of sight.link world w.first.dice.seed in
      sum_as (HasHandled bench all.seen all.highest) (λ (c : Case L). cond {A = ℕ} (looks_up c) 1 0)
      (λ (c : Case L). at_place (λ k. cond (looked_up (slice_get all.seen k)) 1 0) (entry_of c))
      (λ c k. looked_at c.kept.pass all.seen c.kept.served.rule c.kept.served.place k.marks) w.cases (works_all w h).account.each) careers over

  module _ (purger : ℕ) (careers : List (Career L C B)) (over : All (IsOver sight world all) careers) (only : ArePurges purger all.seen)
      (once : OnceEach (purger ∷ map (λ w. w.last.pass.number) careers))
      (made_by_these : (number : ℕ) → any_by (number ∷ []) all.seen ≡ true → is_of (purger ∷ map (λ w. w.last.pass.number) careers) number ≡ true) where
    -- all places but those of purges are the workers'
    weighs : (weight : ℕ → ℕ) → made_by weight purger 0 all.seen ≡ 0
        → sum_by (λ w. sum_by (λ c. at_place weight (entry_of c)) w.cases) careers ≡ all_places weight 0 all.seen
    weighs weight none =
        let a = careers_weigh weight careers over in
        let b = total weight (purger ∷ map (λ (w : Career L C B). w.last.pass.number) careers) 0 all.seen once made_by_these in
        let c = sum_by-cons (λ n. made_by weight n 0 all.seen) purger (map (λ (w : Career L C B). w.last.pass.number) careers) in omega arith

    times : (said : Verdict) → sum_by (λ w. count_by (λ c. tells said c.kept.served.place c.kept.served.rule) w.cases) careers ≡ times_said said all.seen
    times said =
        let weight : ℕ → ℕ = λ k. cond (is_said said (take k all.seen) (slice_get all.seen k)) 1 0 in
        said_of said careers over ∙ (weighs weight (none_said said) ∙ places_range weight 0 all.seen)
      where
        -- the front does not matter at a purge
        none_said : (said : Verdict) → made_by (λ k. cond (is_said said (take k all.seen) (slice_get all.seen k)) 1 0) purger 0 all.seen ≡ 0
        none_said said = said_none [] all.seen 0 refl refl only
          where
            said_none : (front events : List Event) (at : ℕ) → all.seen ≡ front ++ events → at ≡ length front → ArePurges purger events
                → made_by (λ k. cond (is_said said (take k all.seen) (slice_get all.seen k)) 1 0) purger at events ≡ 0
            said_none front [] at is here only = refl
            said_none front (event ∷ events) at is here only =
                let there : slice_get all.seen at ≡ Some event =
                ap (λ l. slice_get l at) is ∙ (ap (λ k. slice_get (front ++ event ∷ events) k) here ∙ get_there front events event) in
                let one : cond {A = ℕ} (nat_eq (maker event) purger) (cond (is_said said (take at all.seen) (slice_get all.seen at)) 1 0) 0 ≡ 0 =
                by_case (nat_eq (maker event) purger) (λ yes. All-head (λ (e : Event). maker e ≡ purger → is_purge e ≡ true) event events only ((Decides-eqb (maker event) purger).0 yes)) there in
                let rest = said_none (front ++ event ∷ []) events (at + 1) (is ∙ sym (append_assoc front (event ∷ []) events))
                (ap (λ k. k + 1) here ∙ sym (length-append front (event ∷ []))) (All-tail (λ (e : Event). maker e ≡ purger → is_purge e ≡ true) event events only) in
                omega arith
              where
                purge_none : (e : Event) → is_purge e ≡ true → is_said said (take at all.seen) (Some e) ≡ false
                purge_none (Admit pass pair moment) no_purge = absurd (true≢false (sym no_purge))
                purge_none (Purge pass moment) purge = refl
                purge_none (Idle pass) no_purge = refl

                by_case : (b : Bool) → (b ≡ true → is_purge event ≡ true) → slice_get all.seen at ≡ Some event
                    → cond {A = ℕ} b (cond (is_said said (take at all.seen) (slice_get all.seen at)) 1 0) 0 ≡ 0
                by_case true purge there =
                    ap (λ o. cond {A = ℕ} (is_said said (take at all.seen) o) 1 0) there ∙ ap (λ z. cond {A = ℕ} z 1 0) (purge_none event (purge refl))
                by_case false purge there = refl

    looks : sum_by (λ w. count_by looks_up w.cases) careers ≡ count_by is_look_up all.seen
    looks =
        let weight : ℕ → ℕ = λ k. cond (looked_up (slice_get all.seen k)) 1 0 in
        let none = purges_weigh (λ o. cond (looked_up o) 1 0) (λ pass moment. not_looked pass moment) purger all.seen [] all.seen 0 refl refl only in
        looked_of careers over ∙ (weighs weight none ∙ look_ups all.seen [] all.seen 0 refl refl)
      where
        not_looked : (pass moment : ℕ) → cond {A = ℕ} (looked_up (Some (Purge pass moment))) 1 0 ≡ 0
        not_looked pass moment = ap (λ b. cond {A = ℕ} b 1 0) (purge_not_looked pass moment)

    tallied : (lasts : List (Desk C B)) (tally : Tally) → map (λ w. w.last) careers ≡ reverse lasts → CountedAll lasts tally → length all.seen ≤ 2 ^ 64 - 1
        → IsTallyOf all.seen tally
    tallied lasts tally are counted small = record {
      presented = counts (λ (d : Desk C B). d.tally.presented) looks_up (λ w o. o.worked.counted.presented) tally.presented counted.presented
          (count_by is_look_up all.seen) looks (count_few is_look_up all.seen);
      accepted = counts (λ (d : Desk C B). d.tally.accepted) (λ c. tells Accepted c.kept.served.place c.kept.served.rule) (λ w o. o.worked.counted.accepted) tally.accepted
          counted.accepted (times_said Accepted all.seen) (times Accepted) (few_said Accepted);
      replayed = counts (λ (d : Desk C B). d.tally.replayed) (λ c. tells Replayed c.kept.served.place c.kept.served.rule) (λ w o. o.worked.counted.replayed) tally.replayed
          counted.replayed (times_said Replayed all.seen) (times Replayed) (few_said Replayed);
      expired = counts (λ (d : Desk C B). d.tally.expired) (λ c. tells Expired c.kept.served.place c.kept.served.rule) (λ w o. o.worked.counted.expired) tally.expired
          counted.expired (times_said Expired all.seen) (times Expired) (few_said Expired);
    }
      where
        few_said : (said : Verdict) → times_said said all.seen ≤ length all.seen
        few_said said =
            let a = count_few (λ place. is_said said (take place all.seen) (slice_get all.seen place)) (range_with_len 0 (length all.seen)) in
            let b = length-range_with_len 0 (length all.seen) in omega arith

        counts : (count : Desk C B → ℕ) (test : Case L → Bool) → ((w : Career L C B) → IsOver sight world all w → count w.last ≡ capped (count_by test w.cases))
            → (is : ℕ) → is ≡ capped (sum_by count lasts) → (times : ℕ) → sum_by (λ w. count_by test w.cases) careers ≡ times → times ≤ length all.seen → is ≡ times
        counts count test each is is_sum times are_times few =
            let a : sum_by count lasts ≡ sum_by (λ (w : Career L C B). count w.last) careers =
            sym (sum_reversed count lasts) ∙ (ap (sum_by count) (sym are) ∙ sum_mapped count (λ (w : Career L C B). w.last) careers) in
            let b = capped_sum (λ (w : Career L C B). count w.last) (λ (w : Career L C B). count_by test w.cases) careers
            (All-weaker (IsOver sight world all) (λ (w : Career L C B). count w.last ≡ capped (count_by test w.cases)) each careers over) in
            is_sum ∙ (ap capped a ∙ (b ∙ (ap capped are_times ∙ omega arith)))

-- where the ticker tells, fewer ticks were missed than a count can hold
spends_exact : (before after : Option ℕ) (dues made missed told unmade : ℕ) → dues ≡ made + missed + unmade → told ≡ capped missed
    → ((n : ℕ) → before ≡ Some n → 0 < dues → n < 2 ^ 64) → Spends before after dues → Spends before after (made + told + unmade)
spends_exact None after dues made missed told unmade are is few spends = tt
spends_exact (Some n) None dues made missed told unmade are is few spends = absurd spends
spends_exact (Some n) (Some rest) dues made missed told unmade are is few spends =
    dite (ℕ_discrete dues 0) (λ none. omega arith) (λ some. let small = few n refl (omega arith) in omega arith)

-- ---- the daemon

module _ {D L C T B : Type 0} (sight : DaemonSight D L C T B) (given : Given D C T) (back : HandedBack D C T B) (told : Told) (gate : GateId)
    (firsts lasts : List (Desk C B)) (rest : List (Queued L)) (left : List (Waiting L)) (purger purger' : Purger C) (all : PassState) where
  -- what is known at the end
  pub record Ended : Type 0 where
    pub made : IsMade given.world
    pub ticked : HasTicked sight.clocks sight.ticks gate purger purger' given.ticker back.ticker
    pub worked : WorkedAll sight.doors sight.desks given.world given.posts back.posts firsts lasts rest
    pub seeds : map (λ d. d.dice.seed) (reverse firsts) ≡ given.seeds
    pub clocks : map (λ d. d.clock) (reverse firsts) ≡ given.clocks
    pub purge_clock : purger.clock ≡ given.purge_clock
    pub purge_clock' : purger'.clock ≡ back.purge_clock
    pub numbers : all.numbers ≡ purger'.pass.number ∷ map (λ d. d.pass.number) (reverse lasts)
    pub once_each : OnceEach all.numbers
    pub home_met : IsMetInto all purger'.pass
    pub met : All (λ d. IsMetInto all d.pass) lasts
    pub clocks' : back.clocks ≡ map (λ d. d.clock) (reverse lasts)
    pub books' : back.books ≡ map (λ d. d.book) (reverse lasts)
    pub counted : CountedAll lasts told.tally
    pub worn_is : told.worn ≡ latest purger'.worn (map (λ d. d.worn) (reverse lasts))
    pub purges_are : told.purges ≡ purger'.purges
    pub missed_is : told.missed ≡ purger'.missed
    pub failed_is : told.ticker_failed ≡ purger'.failed
    pub entries_is : told.entries ≡ length all.seen
    pub stands : Stands told.state all.seen
    pub made_by_these : AreMadeBy all.numbers all.seen
    pub once : IsDistinct pair_eq (accepted all.seen)
    pub highest : all.highest ≤ length all.seen
    pub small : told.entries ≤ 2 ^ 64 - 1
    pub left_are : left ≡ map (λ q. q.waiting) rest

  module _ (e : Ended) where
    careers : List (Career L C B)
    careers = reverse e.worked.closed.careers

    workers : List (Worker L)
    workers = map worker_of careers

    firsts_are : map (λ w. w.first) careers ≡ reverse firsts
    unfolding careers
    firsts_are = map-reverse (λ (w : Career L C B). w.first) e.worked.closed.careers ∙ ap reverse e.worked.closed.firsts_are

    lasts_are : map (λ w. w.last) careers ≡ reverse lasts
    unfolding careers
    lasts_are = map-reverse (λ (w : Career L C B). w.last) e.worked.closed.careers ∙ ap reverse e.worked.closed.lasts_are

    over : All (IsOver sight.desks given.world all) careers
    unfolding careers
    over =
        let met : All (λ (w : Career L C B). IsMetInto all w.last.pass) careers =
        unmapped (λ (d : Desk C B). IsMetInto all d.pass) (λ (w : Career L C B). w.last) careers
        (subst (All (λ (d : Desk C B). IsMetInto all d.pass)) (sym lasts_are) (All-reverse (λ (d : Desk C B). IsMetInto all d.pass) lasts e.met)) in
        let worked = All-reverse (IsCareer sight.desks given.world) e.worked.closed.careers e.worked.closed.worked in
        λ k d within. record { worked = worked k d within; met = met k d within }

    number : ℕ
    number = purger'.pass.number

    numbers_are : all.numbers ≡ number ∷ map (λ w. w.last.pass.number) careers
    unfolding number
    numbers_are =
        e.numbers ∙ ap (λ l. number ∷ l) (ap (map (λ (d : Desk C B). d.pass.number)) (sym lasts_are) ∙ map_map (λ (d : Desk C B). d.pass.number) (λ (w : Career L C B). w.last) careers)

    once_these : OnceEach (number ∷ map (λ w. w.last.pass.number) careers)
    once_these = subst OnceEach numbers_are e.once_each

    made_these : (n : ℕ) → any_by (n ∷ []) all.seen ≡ true → is_of (number ∷ map (λ w. w.last.pass.number) careers) n ≡ true
    made_these n by = subst (λ l. is_of l n ≡ true) numbers_are (e.made_by_these n by)

    purges : PurgesStand number all.seen all.highest e.ticked.purged.made e.ticked.purged.readings purger'.worn
    unfolding number
    purges =
        let p = e.ticked.purged in
        let own : purger.pass.number ≡ number = sym p.number_is in
        purges_longer number purger'.pass.seen all.seen purger'.pass.highest all.highest p.made p.readings purger'.worn e.home_met.not_below e.home_met.goes_on
        (subst (λ n. PurgesStand n purger'.pass.seen purger'.pass.highest p.made p.readings purger'.worn) own
        (record { only = p.only; made_is = p.made_is; in_order = p.in_order; worn_is = p.worn_is }))

    by_purger : All (λ entry. is_purge entry ≡ true → maker entry ≡ number) all.seen
    by_purger k d within purge =
        let n = maker (get_or all.seen k d) in
        from_purger n (made_these n (made_at all.seen k d within)) (λ has.
        let plain = worker_plain sight.desks given.world e.made all n careers over has in
        true≢false (sym purge ∙ plain k d within refl))
      where
        from_purger : (n : ℕ) → is_of (number ∷ map (λ w. w.last.pass.number) careers) n ≡ true
            → (is_of (map (λ w. w.last.pass.number) careers) n ≡ true → ⊥) → n ≡ number
        from_purger n has never =
            elim (nat_eq n number) as (λ b. (b ≡ true → n ≡ number) → (b || is_of (map (λ (w : Career L C B). w.last.pass.number) careers) n) ≡ true → n ≡ number)
            [ true ↦ λ yes h. yes refl | false ↦ λ yes h. absurd (never h) ] (Decides-eqb n number).0 has

    same_all : IsPermutation (flat_map (λ l. l) e.worked.puts) (flat_map taken_by_worker workers ++ rest)
    unfolding careers workers worker_of
    same_all =
        let flat : flat_map taken_by_worker workers ≡ flat_map taken_in careers = flat_of_map taken_by_worker worker_of careers in
        IsPermutation-trans (flat_map (λ l. l) e.worked.puts) (flat_map taken_in e.worked.closed.careers ++ rest) (flat_map taken_by_worker workers ++ rest) e.worked.closed.same
        (IsPermutation-append (flat_map taken_in e.worked.closed.careers) (flat_map taken_by_worker workers) rest rest
        (subst (IsPermutation (flat_map taken_in e.worked.closed.careers)) (sym flat) (flat_reversed taken_in e.worked.closed.careers)) (IsPermutation-refl rest))

    below : all.highest ≤ told.entries
    below = let a = e.highest in let b = e.entries_is in omega arith

    worn_each : All (λ w. IsWornWithin told.entries w.last.worn) careers
    worn_each =
        All-weaker (IsOver sight.desks given.world all) (λ (w : Career L C B). IsWornWithin told.entries w.last.worn)
        (λ w o. (let up = o.met.not_below in let down = below in worn_higher w.last.pass.highest told.entries w.last.worn (omega arith) (o.worked.worn_is e.made))) careers over

    worn_list : map (λ w. w.last.worn) careers ≡ map (λ d. d.worn) (reverse lasts)
    worn_list = sym (map_map (λ (d : Desk C B). d.worn) (λ (w : Career L C B). w.last) careers) ∙ ap (map (λ (d : Desk C B). d.worn)) lasts_are

    none_of_all : told.worn ≡ None → (purger'.worn ≡ None) × All (λ w. w.last.worn ≡ None) careers
    none_of_all none =
        let both = latest_none purger'.worn (map (λ (d : Desk C B). d.worn) (reverse lasts)) (sym e.worn_is ∙ none) in (
          both.0,
          unmapped (λ (o : Option ℕ). o ≡ None) (λ (w : Career L C B). w.last.worn) careers (subst (All (λ (o : Option ℕ). o ≡ None)) (sym worn_list) both.1),
        )

    purger_ran : PurgerRan sight given back told number all.seen
    purger_ran =
        let p = e.ticked.purged in
        let count = all_purges number all.seen all.highest p.made p.readings purger'.worn purges by_purger in
        let few = count_few is_purge all.seen in
        let small = e.small in
        let size = e.entries_is in
        let kept = p.purges_is in
        let told_purges = e.purges_are in
        let exact : told.purges ≡ p.made = omega arith in
        record {
          by_purger = by_purger;
          purges_are = exact ∙ sym count;
          readings = p.readings;
          read = subst (λ (c : C). Consumes (sight.clocks.timing given.purge_clock).readings (sight.clocks.timing c).readings p.readings) e.purge_clock'
              (subst (λ (c : C). Consumes (sight.clocks.timing c).readings (sight.clocks.timing purger'.clock).readings p.readings) e.purge_clock p.read);
          in_order = purges.in_order;
          unmade = p.unmade;
          dues = spends_exact (sight.ticks.due given.ticker) (sight.ticks.due back.ticker) e.ticked.dues told.purges p.missed told.missed p.unmade
              (p.dues_are ∙ ap (λ n. n + p.missed + p.unmade) (sym exact)) (e.missed_is ∙ p.missed_is) e.ticked.few e.ticked.told;
          readings_are = p.readings_are ∙ ap (λ n. n + p.unmade) (sym exact);
          counted = subst (λ (c : C). RoseBy (length p.readings) (sight.clocks.timing given.purge_clock).given (sight.clocks.timing c).given) e.purge_clock'
              (subst (λ (c : C). RoseBy (length p.readings) (sight.clocks.timing c).given (sight.clocks.timing purger'.clock).given) e.purge_clock p.given);
          all_made = λ none. p.unmade_is (none_of_all none).0;
          missed = subst (λ (c : C). RoseBy told.missed (sight.clocks.faults given.purge_clock) (sight.clocks.faults c)) e.purge_clock'
              (subst (λ (c : C). RoseBy told.missed (sight.clocks.faults c) (sight.clocks.faults purger'.clock)) e.purge_clock
              (let rose = p.faults in let a = e.missed_is in let b = p.missed_is in omega arith));
          over = λ well. e.ticked.over (sym e.failed_is ∙ well);
          failed = λ bad. e.ticked.failed (sym e.failed_is ∙ bad);
        }

    made_once : (place : ℕ) (entry : Event) → slice_get all.seen place ≡ Some entry → is_purge entry ≡ false
        → sum_by (λ w. count_by (λ c. is_at place c.kept.served.place) w.cases) workers ≡ 1
    unfolding workers worker_of
    made_once place entry there plain =
        let weight : ℕ → ℕ = λ k. cond (nat_eq place k) 1 0 in
        let none = other_at number 0 place place all.seen (omega arith) (λ other at mine.
        let here = get_same all.seen place other at in
        let purge : is_purge other ≡ true =
        subst (λ (x : Event). is_purge x ≡ true) here (purges.only place other (within_at all.seen place other at) (ap maker here ∙ mine)) in
        let same : entry ≡ other = cc in
        true≢false (sym purge ∙ (ap is_purge (sym same) ∙ plain))) in
        let a = weighs sight.desks given.world e.made all number careers over purges.only once_these made_these weight none in
        let one = just_one place 0 all.seen (omega arith) (let w = within_at all.seen place entry there in omega arith) in
        let b = sum_mapped (λ (w : Worker L). count_by (λ (c : Case L). is_at place c.kept.served.place) w.cases) worker_of careers in
        let c = sum_same (λ (w : Career L C B). count_by (λ (c : Case L). is_at place c.kept.served.place) w.cases)
        (λ (w : Career L C B). sum_by (λ (c : Case L). at_place weight (entry_of c)) w.cases)
        (λ w. sum_same (λ (c : Case L). cond {A = ℕ} (is_at place c.kept.served.place) 1 0) (λ (c : Case L). at_place weight (entry_of c))
        (λ c. at_test place c.kept.served.place) w.cases) careers in
        omega arith

    each_worked : (n : ℕ) (w : Worker L) (seed : List ℕ) (clock : C) (book : B) → n < length workers
        → WorkerRan sight.desks given.world all.seen told.entries (get_or given.seeds n seed) (get_or given.clocks n clock)
        (get_or back.clocks n clock) (get_or back.books n book) (get_or workers n w)
    unfolding workers
    each_worked n w seed clock book within =
        let size = length-map careers worker_of in at careers refl (omega arith)
      where
        seeds_are : given.seeds ≡ map (λ w. w.first.dice.seed) careers
        seeds_are = sym e.seeds ∙ (ap (map (λ (d : Desk C B). d.dice.seed)) (sym firsts_are) ∙ map_map (λ (d : Desk C B). d.dice.seed) (λ (w : Career L C B). w.first) careers)

        clocks_are : given.clocks ≡ map (λ w. w.first.clock) careers
        clocks_are = sym e.clocks ∙ (ap (map (λ (d : Desk C B). d.clock)) (sym firsts_are) ∙ map_map (λ (d : Desk C B). d.clock) (λ (w : Career L C B). w.first) careers)

        clocks_back : back.clocks ≡ map (λ w. w.last.clock) careers
        clocks_back = e.clocks' ∙ (ap (map (λ (d : Desk C B). d.clock)) (sym lasts_are) ∙ map_map (λ (d : Desk C B). d.clock) (λ (w : Career L C B). w.last) careers)

        books_back : back.books ≡ map (λ w. w.last.book) careers
        books_back = e.books' ∙ (ap (map (λ (d : Desk C B). d.book)) (sym lasts_are) ∙ map_map (λ (d : Desk C B). d.book) (λ (w : Career L C B). w.last) careers)

        at : (cs : List (Career L C B)) → cs ≡ careers → n < length careers
            → WorkerRan sight.desks given.world all.seen told.entries (get_or given.seeds n seed) (get_or given.clocks n clock)
            (get_or back.clocks n clock) (get_or back.books n book) (get_or workers n w)
        at [] none inside = absurd (let s = ap length none in omega arith)
        at (c ∷ cs) is inside =
            let career = get_or careers n c in
            let ran = worker_ran sight.desks given.world e.made all all.seen told.entries career refl below (over n c inside) in
            let s : get_or given.seeds n seed ≡ career.first.dice.seed = ap (λ l. get_or l n seed) seeds_are ∙ get_or-map (λ (w : Career L C B). w.first.dice.seed) careers n c seed inside in
            let f : get_or given.clocks n clock ≡ career.first.clock = ap (λ l. get_or l n clock) clocks_are ∙ get_or-map (λ (w : Career L C B). w.first.clock) careers n c clock inside in
            let g : get_or back.clocks n clock ≡ career.last.clock = ap (λ l. get_or l n clock) clocks_back ∙ get_or-map (λ (w : Career L C B). w.last.clock) careers n c clock inside in
            let b : get_or back.books n book ≡ career.last.book = ap (λ l. get_or l n book) books_back ∙ get_or-map (λ (w : Career L C B). w.last.book) careers n c book inside in
            let k : get_or workers n w ≡ worker_of career = get_or-map worker_of careers n c w inside in
            subst (λ z. WorkerRan sight.desks given.world all.seen told.entries z (get_or given.clocks n clock) (get_or back.clocks n clock) (get_or back.books n book) (get_or workers n w)) (sym s)
            (subst (λ z. WorkerRan sight.desks given.world all.seen told.entries career.first.dice.seed z (get_or back.clocks n clock) (get_or back.books n book) (get_or workers n w)) (sym f)
            (subst (λ z. WorkerRan sight.desks given.world all.seen told.entries career.first.dice.seed career.first.clock z (get_or back.books n book) (get_or workers n w)) (sym g)
            (subst (λ z. WorkerRan sight.desks given.world all.seen told.entries career.first.dice.seed career.first.clock career.last.clock z (get_or workers n w)) (sym b)
            (subst (WorkerRan sight.desks given.world all.seen told.entries career.first.dice.seed career.first.clock career.last.clock career.last.book) (sym k) ran))))

    -- what was taken is kept, and what was not is left, each with its post and its turn
    kept_or_left : (p k : ℕ) → sum_by (λ w. count_by (λ c. is_kept p k c.kept) w.cases) workers + count_by (is_left p k) left
        ≡ count_by (is_turn p k) (flat_map taken_by_worker workers ++ rest)
    unfolding workers worker_of
    kept_or_left p k =
        let f : Queued L → ℕ = λ q. cond {A = ℕ} (is_turn p k q) 1 0 in
        let g : Waiting L → ℕ = λ w. cond {A = ℕ} (is_left p k w) 1 0 in
        let a = sum_by-append f (flat_map taken_by_worker workers) rest in
        let b = sum_flat_map f taken_by_worker workers in
        let c = sum_mapped (λ (w : Worker L). sum_by f (taken_by_worker w)) worker_of careers in
        let d = sum_mapped (λ (w : Worker L). count_by (λ (c : Case L). is_kept p k c.kept) w.cases) worker_of careers in
        let h = kept_as_taken sight.desks given.world e.made all p k careers over in
        let l = ap (sum_by g) e.left_are ∙ sum_mapped g (λ (q : Queued L). q.waiting) rest in
        omega arith

    pub daemon_ran : DaemonRan sight given back left told
    unfolding workers worker_of careers
    daemon_ran =
        let flat_puts : List (Queued L) = flat_map (λ (l : List (Queued L)). l) e.worked.puts in
        let taken : List (Queued L) = flat_map taken_by_worker workers ++ rest in
        let many : length workers ≡ length careers = length-map careers worker_of in
        let as_many : length careers ≡ length (reverse firsts) = sym (length-map careers (λ (w : Career L C B). w.first)) ∙ ap length firsts_are in
        let as_lasts : length careers ≡ length (reverse lasts) = sym (length-map careers (λ (w : Career L C B). w.last)) ∙ ap length lasts_are in
        let as_seeds : length (reverse firsts) ≡ length given.seeds = sym (length-map (reverse firsts) (λ (d : Desk C B). d.dice.seed)) ∙ ap length e.seeds in
        let same_size : length (reverse lasts) ≡ length given.seeds = sym as_lasts ∙ (as_many ∙ as_seeds) in
        record {
          history = all.seen;
          entries_is = e.entries_is;
          stands = e.stands;
          once = e.once;
          puts = e.worked.puts;
          posts = e.worked.posts_ran;
          purger = number;
          workers = workers;
          numbers = subst (λ l. OnceEach (number ∷ l)) (sym (map_map (λ (w : Worker L). w.number) worker_of careers)) once_these;
          seeds = many ∙ (as_many ∙ as_seeds);
          clocks = ap length e.clocks' ∙ (length-map (reverse lasts) (λ (d : Desk C B). d.clock) ∙ same_size);
          books = ap length e.books' ∙ (length-map (reverse lasts) (λ (d : Desk C B). d.book) ∙ same_size);
          worked = each_worked;
          rest = rest;
          left_are = e.left_are;
          same = same_all;
          each_once = λ p k post conns after within before then gave.
              kept_or_left p k
              ∙ (sum_by-IsPermutation (λ (q : Queued L). cond {A = ℕ} (is_turn p k q) 1 0) flat_puts taken same_all
              ∙ once_put sight.doors given.posts back.posts e.worked.puts e.worked.posts_ran p k post conns after within before then gave);
          nothing_else = All-permutation (IsGiven sight.doors given.posts back.posts) flat_puts taken same_all
              (given_put sight.doors given.posts back.posts e.worked.puts e.worked.posts_ran);
          made = made_once;
          purged = purger_ran;
          worn_is = subst (IsWornWithin told.entries) (sym e.worn_is)
              (latest_within told.entries purger'.worn (map (λ (d : Desk C B). d.worn) (reverse lasts))
              (worn_higher all.highest told.entries purger'.worn below purges.worn_is)
              (subst (All (IsWornWithin told.entries)) worn_list (All-map (IsWornWithin told.entries) (λ (w : Career L C B). w.last.worn) careers worn_each)));
          none_worn = λ none.
              All-map (λ (w : Worker L). All (λ (c : Case L). IsNotWorn c.kept.served.how) w.cases) worker_of careers
              (λ k d within. (over k d within).worked.none_worn ((none_of_all none).1 k d within));
          left_empty = λ none.
              e.worked.closed.left_empty
              (subst (All (λ (d : Desk C B). d.worn ≡ None)) (ap reverse lasts_are ∙ reverse-reverse lasts)
              (All-reverse (λ (d : Desk C B). d.worn ≡ None) (map (λ (w : Career L C B). w.last) careers)
              (All-map (λ (d : Desk C B). d.worn ≡ None) (λ (w : Career L C B). w.last) careers (none_of_all none).1)));
          tallied = tallied sight.desks given.world e.made all number careers over purges.only once_these made_these lasts told.tally lasts_are e.counted
              (let a = e.small in let b = e.entries_is in omega arith);
        }
