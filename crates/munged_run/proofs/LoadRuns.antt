-- What serving all jobs of a load comes to.
use Rattle.std.proofs.Common.{◌≡◌, ℕ, ◌<◌, ◌+◌, ◌*◌, ◌/◌, Bool, true, false, nat_eq, ◌||◌, List, [], ◌∷◌, ◌++◌, length, map, get_or, Option, Some, None, option_map, unwrap_or, refl, sym, ap, ◌∙◌, subst, arith}
use Rattle.std.proofs.lemmas.List.{length-append, length-map}
use Rattle.std.proofs.lemmas.List.Elements.{All-from_recursion, All-map, recursion_from_All}
use Rattle.std.proofs.lemmas.List.FromFn.{length-range_with_len, get_or-range_with_len}
use Rattle.std.proofs.lemmas.Option.{slice_get-map, slice_get_within, get_or_from_slice_get}
use Rattle.std.specs.List.{All, AllByRecursion, IsDistinct, count_by, list_any, range_with_len, slice_get}
use Rattle.munge_types.specs.History.{accepted}
use Rattle.munge_types.specs.Live.{live}
use Rattle.munge_types.specs.Pair.{pair_eq}
use Rattle.munge_types.specs.StandsFor.{Stands}
use Rattle.munge_types.specs.declared.history.Event.{Event}
use Rattle.munge_types.specs.declared.history.Event.TheVariants.{Purge}
use Rattle.load_maker.specs.Load.{IsLoad}
use Rattle.load_maker.specs.declared.making.Load.{Load}
use Rattle.worker_pool.specs.Lanes.{numbers_of}
use Rattle.worker_pool.specs.Pool.{Left, PoolRan, is_at}
use Rattle.worker_pool.specs.Tally.{IsTallyOf}
use Rattle.worker_pool.specs.declared.job.Done.{Done}
use Rattle.worker_pool.specs.declared.job.Job.{Job}
use Rattle.munged_run.specs.LoadJobs.{AreJobsOf}
use Rattle.munged_run.specs.LoadLink.{LinkState}
use Rattle.munged_run.specs.LoadServed.{EndsWell, IsHistoryOf, LooksUp, seeds_of, wants_memory}
use Rattle.munged_run.specs.ServedBy.{IsServedBy}
use Rattle.munged_run.specs.declared.exercise.LoadEnd.{LoadEnd}
use Rattle.munged_run.specs.declared.exercise_words.AskedExercise.{AskedExercise}
use Rattle.munged_run.specs.declared.load.clock.LoadClock.{LoadClock}
use Rattle.munged_run.proofs.ClosingTally.{closing_tally}
use Rattle.munged_run.proofs.Counting.{count_by-map, count_by-same, each_once}
use Rattle.munged_run.proofs.ServedJobs.{LoadLaws, Looked, is_done, job_ends, job_looks, load_work}

abbrev Served : Type 0
Served = Done LinkState LoadClock

first_of : (p q : Bool) → (p || q) ≡ false → p ≡ false
first_of false q e = refl
first_of true q e = absurd (cc e)

second_of : (p q : Bool) → (p || q) ≡ false → q ≡ false
second_of false q e = e
second_of true q e = absurd (cc e)

-- none of a list passes a test that no element passes
none_pass : {X : Type 0} (test : X → Bool) (xs : List X) → list_any test xs ≡ false → AllByRecursion (λ x. test x ≡ false) xs
none_pass test [] none = tt
none_pass test (x ∷ xs) none = (first_of (test x) (list_any test xs) none, none_pass test xs (second_of (test x) (list_any test xs) none))

-- every job ends well
pub all_end : (laws : LoadLaws) (n number : ℕ) (load : Load) (seeds : List (List ℕ)) (jobs : List (Job LinkState LoadClock))
    (left : Left LinkState LoadClock) → IsLoad n number load → AreJobsOf load jobs → PoolRan (load_work load seeds jobs) left
    → All (λ done. EndsWell done.served.how) left.done
all_end laws n number load seeds jobs left is_load are ran = λ k d less.
    job_ends laws.frames n number load seeds jobs ran.history left.entries (get_or left.done k d) is_load are (ran.each k d less) (ran.not_worn k d less)

-- the place of a job's entry, where it has one
abbrev place_or : Served → ℕ
place_or done = unwrap_or done.served.place 0

placed : (number : ℕ) (load : Load) (history : List Event) (done : Served) (looked : Looked number load history done) → place_or done ≡ looked.place
placed number load history done looked = ap (λ place. unwrap_or place 0) looked.place_is

-- the number of the job at an index is that index
number_at : (done : List Served) (n j : ℕ) (one : Served) → numbers_of done ≡ range_with_len 0 n → slice_get done j ≡ Some one → one.job ≡ j
number_at done n j one order at =
    let numbers : slice_get (numbers_of done) j ≡ Some one.job = slice_get-map (λ d. d.job) done j ∙ ap (option_map (λ d. d.job)) at in
    let less : j < length (numbers_of done) = slice_get_within (numbers_of done) j one.job numbers in
    let size : length (numbers_of done) ≡ n = ap length order ∙ length-range_with_len 0 n in
    let within : j < n = omega arith in
    let first : 0 + j ≡ j = omega arith in
    sym (get_or_from_slice_get (numbers_of done) j one.job 0 numbers)
    ∙ (ap (λ l. get_or l j 0) order ∙ (get_or-range_with_len 0 n j 0 within ∙ first))

looked_at : (number : ℕ) (load : Load) (history : List Event) (done : List Served) → All (Looked number load history) done
    → (n j place : ℕ) (found : Option Served) → numbers_of done ≡ range_with_len 0 n → slice_get done j ≡ found
    → option_map place_or found ≡ Some place → LooksUp number load history (j / 2) place
looked_at number load history done all n j place None order at is = absurd (cc is)
looked_at number load history done all n j place (Some one) order at is =
    let less : j < length done = slice_get_within done j one at in
    let looked : Looked number load history one = subst (Looked number load history) (get_or_from_slice_get done j one one at) (all j one less) in
    let same : looked.place ≡ place = sym (placed number load history one looked) ∙ cc is in
    subst (λ k. LooksUp number load history (k / 2) place) (number_at done n j one order at)
    (subst (LooksUp number load history (one.job / 2)) same looked.looks)

within_history : (number : ℕ) (load : Load) (history : List Event) (i place : ℕ) → LooksUp number load history i place → place < length history
within_history number load history i place looks =
    let size = ap length looks.entries_are ∙ length-append looks.before _ in
    let at = looks.place_is in
    omega (arith, size, at)

-- Where every job is done, the history is the load's look-ups.
pub history_of : (laws : LoadLaws) (n number : ℕ) (load : Load) (seeds : List (List ℕ)) (jobs : List (Job LinkState LoadClock))
    (left : Left LinkState LoadClock) (history : List Event) → IsLoad n number load → (are : AreJobsOf load jobs)
    → (ran : PoolRan (load_work load seeds jobs) left)
    → history ≡ ran.history ++ Purge 0 load.last ∷ []
    → list_any (λ done. wants_memory done.served.how) left.done ≡ false → IsHistoryOf n number history
history_of laws n number load seeds jobs left history is_load are ran closing none =
    let wanting : Served → Bool = λ done. wants_memory done.served.how in
    let calm : All (λ done. wanting done ≡ false) left.done = All-from_recursion (λ done. wanting done ≡ false) left.done (none_pass wanting left.done none) in
    let ends : All (λ done. EndsWell done.served.how) left.done = all_end laws n number load seeds jobs left is_load are ran in
    let looked : All (Looked number load ran.history) left.done = λ k d less.
    job_looks laws n number load seeds jobs ran.history left.entries (get_or left.done k d) is_load are (ran.each k d less)
    (is_done (get_or left.done k d).served.how (ends k d less) (calm k d less)) in
    let places : List ℕ = map place_or left.done in
    let texts : length load.texts.items ≡ n = omega (arith, is_load.count, load.texts.ok.0) in
    let size : length left.done ≡ length jobs = sym (length-map left.done (λ d. d.job)) ∙ (ap length ran.in_order ∙ length-range_with_len 0 (length jobs)) in
    let job_count : length places ≡ 2 * n = omega (arith, length-map left.done place_or, size, are.count, texts) in
    let one_each : (place : ℕ) → place < length ran.history → count_by (nat_eq place) places ≡ 1 = λ place less.
    count_by-map (nat_eq place) place_or left.done
    ∙ (count_by-same (λ d. nat_eq place (place_or d)) (λ d. is_at place d.served.place) left.done
    (recursion_from_All (λ d. nat_eq place (place_or d) ≡ is_at place d.served.place) left.done (λ k d inside.
    let one : Served = get_or left.done k d in
    let here : Looked number load ran.history one = looked k d inside in
    rw here.place_is refl))
    ∙ ran.made place less) in
    let below : AllByRecursion (λ place. place < length ran.history) places = recursion_from_All (λ place. place < length ran.history) places
    (All-map (λ place. place < length ran.history) place_or left.done (λ k d inside.
    let one : Served = get_or left.done k d in
    let here : Looked number load ran.history one = looked k d inside in
    subst (λ place. place < length ran.history) (sym (placed number load ran.history one here))
    (within_history number load ran.history (one.job / 2) here.place here.looks))) in
    record {
      load = load;
      load_is = is_load;
      entries = ran.history;
      history_is = closing;
      places = places;
      jobs = job_count;
      each = λ j place at. looked_at number load ran.history left.done looked (length jobs) j place (slice_get left.done j) ran.in_order refl
          (sym (slice_get-map place_or left.done j) ∙ at);
      one_each = one_each;
      no_others = sym (each_once (length ran.history) places below one_each) ∙ job_count;
    }

-- What came of a load, from what the pool left and what was counted.
pub served_by : (laws : LoadLaws) (asked : AskedExercise) (end : LoadEnd) (load : Load) (jobs : List (Job LinkState LoadClock))
    (left : Left LinkState LoadClock)
    → ((history : List Event) (pass moment : ℕ) → accepted (history ++ Purge pass moment ∷ []) ≡ accepted history)
    → IsLoad asked.credentials asked.number load → AreJobsOf load jobs
    → PoolRan (load_work load (seeds_of asked.workers) jobs) left → end.tally ≡ left.tally
    → ((history : List Event) → Stands left.state history → end.kept ≡ live (history ++ Purge 0 load.last ∷ []))
    → end.wanted ≡ list_any (λ done. wants_memory done.served.how) left.done → IsServedBy asked end
served_by laws asked end load jobs left purges is_load are ran tally kept wanted =
    let seeds : List (List ℕ) = seeds_of asked.workers in
    let closing : List Event = ran.history ++ Purge 0 load.last ∷ [] in
    record {
      history = closing;
      served = record {
        load = load;
        load_is = is_load;
        jobs = jobs;
        jobs_are = are;
        left = left;
        ran = ran;
        closing = refl;
        tallied = subst (IsTallyOf closing) (sym tally) (closing_tally ran.history 0 load.last left.tally ran.tallied);
        kept_is = kept ran.history ran.stands;
        once = subst (IsDistinct pair_eq) (sym (purges ran.history 0 load.last)) ran.once;
        ends = all_end laws asked.credentials asked.number load seeds jobs left is_load are ran;
        wanted_is = wanted;
      };
      whole = λ none. history_of laws asked.credentials asked.number load seeds jobs left closing is_load are ran refl (sym wanted ∙ none);
    }
