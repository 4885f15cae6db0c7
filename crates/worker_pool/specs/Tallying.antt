-- How a worker counts what is told of its connections.
use Rattle.std.specs.Prelude.{◌≡◌, ℕ, ◌+◌, Bool, true, false, List}
use Rattle.std.specs.List.{count_by}
use Rattle.std.specs.declared.option.Option.{Option}
use Rattle.munge_types.specs.declared.history.Verdict.TheVariants.{Accepted, Expired, Replayed}
use Rattle.worker_pool.specs.Cases.{Case}
use Rattle.worker_pool.specs.Single.{capped}
use Rattle.worker_pool.specs.Tally.{tells, tells_look_up}
use Rattle.worker_pool.specs.declared.tally.Tally.{Tally}

-- one more where it is so
abbrev pub more_counted : Bool → (count : ℕ) → ℕ
more_counted true count = capped (count + 1)
more_counted false count = count

-- what is told of one connection more was counted
pub record CountedOne (place rule : Option ℕ) (old new : Tally) : Type 0 where
  pub presented : new.presented ≡ more_counted (tells_look_up place rule) old.presented
  pub accepted : new.accepted ≡ more_counted (tells Accepted place rule) old.accepted
  pub replayed : new.replayed ≡ more_counted (tells Replayed place rule) old.replayed
  pub expired : new.expired ≡ more_counted (tells Expired place rule) old.expired

-- what was counted by two workers
pub record CountedBoth (first second both : Tally) : Type 0 where
  pub presented : both.presented ≡ capped (first.presented + second.presented)
  pub accepted : both.accepted ≡ capped (first.accepted + second.accepted)
  pub replayed : both.replayed ≡ capped (first.replayed + second.replayed)
  pub expired : both.expired ≡ capped (first.expired + second.expired)

-- whether what is told of the connection says that its entry is a look-up
abbrev pub looks_up : {L : Type 0} → Case L → Bool
looks_up c = tells_look_up c.kept.served.place c.kept.served.rule

-- the tally counts what is told of these
pub record Counted {L : Type 0} (cases : List (Case L)) (tally : Tally) : Type 0 where
  pub presented : tally.presented ≡ capped (count_by looks_up cases)
  pub accepted : tally.accepted
      ≡ capped (count_by (λ c. tells Accepted c.kept.served.place c.kept.served.rule) cases)
  pub replayed : tally.replayed
      ≡ capped (count_by (λ c. tells Replayed c.kept.served.place c.kept.served.rule) cases)
  pub expired : tally.expired
      ≡ capped (count_by (λ c. tells Expired c.kept.served.place c.kept.served.rule) cases)
