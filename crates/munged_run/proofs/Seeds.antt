-- The seeds of workers, one by one.
use Rattle.std.proofs.Common.{◌≡◌, ℕ, ◌+◌, List, [], ◌∷◌, ◌++◌, replicate}
use Rattle.munged_run.specs.LoadServed.{seeds_of}
use Rattle.munged_run.proofs.Ranges.{mapped_more}

pub one_more_seed : (seeds : List (List ℕ)) (worker : ℕ) → seeds ≡ seeds_of worker
    → seeds ++ replicate 32 worker ∷ [] ≡ seeds_of (worker + 1)
one_more_seed seeds worker are = mapped_more (replicate 32) seeds worker are
