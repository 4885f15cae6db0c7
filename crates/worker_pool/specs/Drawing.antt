-- Which words the jobs of a worker drew.
use Rattle.std.specs.Prelude.{◌≡◌, ℕ, ◌*◌, ◌%◌, nat_eq, List, [], ◌∷◌, filter, length, map}
use Rattle.std.specs.List.{range_with_len}
use Rattle.std.specs.declared.option.Option.{Option}
use Rattle.std.specs.declared.option.Option.TheVariants.{None, Some}
use Rattle.worker_pool.specs.declared.job.Done.{Done}

-- the place that a job drew at, if it drew, before these
abbrev pub with_drawn : (drawn : Option ℕ) → (places : List ℕ) → List ℕ
with_drawn None places = places
with_drawn (Some place) places = place ∷ places

-- the places that jobs drew at, in the order of the jobs
abbrev pub drawn_of : {L C : Type 0} → List (Done L C) → List ℕ
drawn_of [] = []
drawn_of (done ∷ rest) = with_drawn done.served.drawn (drawn_of rest)

-- 0, 6, 12 and so on, so many
abbrev pub sixes : (count : ℕ) → List ℕ
sixes count = map (λ k. 6 * k) (range_with_len 0 count)

-- the places are 0, 6, 12 and so on, since each draw takes six words
abbrev pub AreBySix : (places : List ℕ) → Type 0
AreBySix places = places ≡ sixes (length places)

-- the jobs of one of so many workers, counted from 0
abbrev pub done_by : {L C : Type 0} → (worker workers : ℕ) → List (Done L C) → List (Done L C)
done_by worker workers done = filter (λ d. nat_eq (d.job % workers) worker) done
