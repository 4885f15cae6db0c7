-- Passes that have met, as those who had them know it.
use Rattle.std.specs.Prelude.{◌≡◌, ℕ, ◌≤◌, List, [], ◌∷◌}
use Rattle.std.specs.List.{sum_by}
use Rattle.std.specs.declared.option.Option.{Option}
use Rattle.replay_gate.specs.GoesOn.{GoesOn}
use Rattle.replay_gate.specs.Makers.{IsOf}
use Rattle.replay_gate.specs.PassState.{PassState}
use Rattle.worker_pool.specs.Desks.{later_of}
use Rattle.worker_pool.specs.Single.{capped}
use Rattle.worker_pool.specs.declared.desk.Desk.{Desk}
use Rattle.worker_pool.specs.declared.tally.Tally.{Tally}

-- the pass was met into the other one, which has seen all of its entries and has read its tickets
pub record IsMetInto (all pass : PassState) : Type 0 where
  pub of_all : IsOf all.numbers pass.number
  pub goes_on : GoesOn (pass.number ∷ []) pass.seen all.seen
  pub not_below : pass.highest ≤ all.highest

-- the last ticket that was found worn, first by one and then by each of the others
abbrev pub latest : (first : Option ℕ) → (others : List (Option ℕ)) → Option ℕ
latest first [] = first
latest first (one ∷ others) = latest (later_of first one) others

-- what all of these workers have counted
pub record CountedAll {C B : Type 0} (desks : List (Desk C B)) (tally : Tally) : Type 0 where
  pub presented : tally.presented ≡ capped (sum_by (λ d. d.tally.presented) desks)
  pub accepted : tally.accepted ≡ capped (sum_by (λ d. d.tally.accepted) desks)
  pub replayed : tally.replayed ≡ capped (sum_by (λ d. d.tally.replayed) desks)
  pub expired : tally.expired ≡ capped (sum_by (λ d. d.tally.expired) desks)
