-- The jobs of a load, one by one.
use Rattle.std.proofs.Common.{◌≡◌, ℕ, ◌/◌, zero, suc, List, [], ◌∷◌, ◌++◌, length, Option, Some, None, sym, subst}
use Rattle.std.specs.List.{slice_get}
use Rattle.load_maker.specs.declared.making.Load.{Load}
use Rattle.worker_pool.specs.declared.job.Job.{Job}
use Rattle.munged_run.specs.LoadJobs.{IsJobOf, PresentsText}
use Rattle.munged_run.specs.LoadLink.{LinkState}
use Rattle.munged_run.specs.declared.load.clock.LoadClock.{LoadClock}

some_once : {X : Type 0} (a b : X) → ◌≡◌ {A = Option X} (Some a) (Some b) → a ≡ b
some_once a b same = cc same

nothing : {X P : Type 0} (a : X) → ◌≡◌ {A = Option X} None (Some a) → P
nothing a same = absurd (cc same)

-- what holds of each element at its index holds with one more of which it holds
pub at_each : {X : Type 0} (P : ℕ → X → Type 0) (xs : List X) (last : X)
    → ((i : ℕ) (x : X) → slice_get xs i ≡ Some x → P i x) → P (length xs) last
    → (i : ℕ) (x : X) → slice_get (xs ++ last ∷ []) i ≡ Some x → P i x
at_each P [] last all holds zero x found = subst (P 0) (some_once last x found) holds
at_each P [] last all holds (suc i) x found = nothing x found
at_each P (y ∷ xs) last all holds zero x found = all zero x found
at_each P (y ∷ xs) last all holds (suc i) x found =
    at_each (λ at. P (suc at)) xs last (λ at. all (suc at)) holds i x found

-- the jobs with the next one behind them, which presents a text of the load
pub one_more_job : (load : Load) (jobs : List (Job LinkState LoadClock)) (last : Job LinkState LoadClock) (j : ℕ) (text : List ℕ)
    → ((i : ℕ) (job : Job LinkState LoadClock) → slice_get jobs i ≡ Some job → PresentsText load (slice_get load.texts.items (i / 2)) job)
    → length jobs ≡ j → slice_get load.texts.items (j / 2) ≡ Some text → IsJobOf load.who text last
    → (i : ℕ) (job : Job LinkState LoadClock) → slice_get (jobs ++ last ∷ []) i ≡ Some job → PresentsText load (slice_get load.texts.items (i / 2)) job
one_more_job load jobs last j text all count text_is is =
    let P : ℕ → Job LinkState LoadClock → Type 0 = λ i job. PresentsText load (slice_get load.texts.items (i / 2)) job in
    let here : P j last = record { bytes = text; text_is = text_is; is_job = is } in
    at_each P jobs last all (subst (λ i. P i last) (sym count) here)
