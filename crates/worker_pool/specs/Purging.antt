-- What a purger has made of its ticks.
use Rattle.std.specs.Prelude.{◌≡◌, ℕ, ◌+◌, ◌^◌, ◌<◌, ◌≤◌, ◌⊎◌, true, false, nat_eq, if◌then◌else◌, List, [], ◌∷◌, length}
use Rattle.std.specs.Io.KnownBytes.{Consumes}
use Rattle.std.specs.declared.option.Option.{Option}
use Rattle.std.specs.declared.option.Option.TheVariants.{None, Some}
use Rattle.byte_io.specs.Counts.{Rose}
use Rattle.munge_types.specs.declared.history.Event.{Event}
use Rattle.munge_types.specs.declared.history.Event.TheVariants.{Admit, Idle, Purge}
use Rattle.replay_gate.specs.PassState.{GateId}
use Rattle.session_core.specs.Connection.{Timing, timing_of}
use Rattle.worker_pool.specs.Account.{made_by}
use Rattle.worker_pool.specs.Single.{ArePurges, IsSingle, IsWornWithin, RoseBy, capped}
use Rattle.worker_pool.specs.declared.purger.Purger.{Purger}

-- how contracts see the clocks of this type
pub record ClockSight (C : Type 0) : Type 0 where
  pub timing : C → Timing
  pub faults : C → ℕ

abbrev pub clock_sight : {C : Type 0} → (readings : C → Option (List ℕ))
    → (last given clock_faults : C → ℕ) → ClockSight C
clock_sight readings last given clock_faults =
    record {
      timing = λ clock. timing_of (readings clock) (last clock) (given clock);
      faults = clock_faults;
    }

-- how contracts see the tickers of this type: how many Due answers are to come, where it is told;
-- how many calls failed; and that it is over
pub record TickerSight (T : Type 0) : Type 1 where
  pub due : T → Option ℕ
  pub faults : T → ℕ
  pub over : T → Type 0

abbrev pub ticker_sight : {T : Type 0} → (due : T → Option ℕ) → (faults : T → ℕ)
    → (over : T → Type 0) → TickerSight T
ticker_sight due faults over = record { due = due; faults = faults; over = over }

-- the moments of the purges that this number has in a history, in order
abbrev pub moments_by : (number : ℕ) → List Event → List ℕ
moments_by number [] = []
moments_by number (Admit pass pair moment ∷ events) = moments_by number events
moments_by number (Purge pass moment ∷ events) =
    if nat_eq pass number then moment ∷ moments_by number events else moments_by number events
moments_by number (Idle pass ∷ events) = moments_by number events

-- the first list is some of the second, in order
abbrev pub IsPartOf : List ℕ → List ℕ → Type 0
IsPartOf [] ys = Unit {0}
IsPartOf (x ∷ xs) [] = ⊥
IsPartOf (x ∷ xs) (y ∷ ys) = ((x ≡ y) × IsPartOf xs ys) ⊎ IsPartOf (x ∷ xs) ys

-- where so many Due answers were to come, as it is told, that many fewer are to come now
abbrev pub Spends : Option ℕ → Option ℕ → (dues : ℕ) → Type 0
Spends None now dues = Unit {0}
Spends (Some n) None dues = ⊥
Spends (Some n) (Some rest) dues = n ≡ dues + rest

-- What a history has of a purger: all entries of its number are purges, so many of them, at moments
-- that are some of these readings, in order. A ticket that it keeps is worn, and within the bound.
pub record PurgesStand (number : ℕ) (history : List Event) (bound : ℕ) (made : ℕ)
    (readings : List ℕ) (worn : Option ℕ) : Type 0 where
  pub only : ArePurges number history
  pub made_is : made_by (λ place. 1) number 0 history ≡ made
  pub in_order : IsPartOf (moments_by number history) readings
  pub worn_is : IsWornWithin bound worn

-- What a purger of this gate and number, whose clock was this one at first, has made of so many
-- Due answers.
pub record HasPurged {C : Type 0} (sight : ClockSight C) (gate : GateId) (number : ℕ)
    (first : C) (purger : Purger C) (dues : ℕ) : Type 0 where
  pub single : IsSingle gate purger.pass
  pub number_is : purger.pass.number ≡ number
  pub only : ArePurges number purger.pass.seen
  -- purges that were made; ticks whose clock failed; purges that the gate refused as worn
  pub made : ℕ
  pub missed : ℕ
  pub unmade : ℕ
  pub dues_are : dues ≡ made + missed + unmade
  pub made_is : made_by (λ place. 1) number 0 purger.pass.seen ≡ made
  pub purges_is : purger.purges ≡ capped made
  pub missed_is : purger.missed ≡ capped missed
  pub unmade_is : purger.worn ≡ None → unmade ≡ 0
  pub worn_is : IsWornWithin purger.pass.highest purger.worn
  -- what its clock gave: a reading for each tick at which it did not fail
  pub readings : List ℕ
  pub readings_are : length readings ≡ made + unmade
  pub read : Consumes (sight.timing first).readings (sight.timing purger.clock).readings readings
  pub in_order : IsPartOf (moments_by number purger.pass.seen) readings
  pub given : RoseBy (length readings) (sight.timing first).given (sight.timing purger.clock).given
  pub faults : RoseBy missed (sight.faults first) (sight.faults purger.clock)

-- one Due answer more, whatever was made of those before
abbrev pub OneMore : {C : Type 0} → (sight : ClockSight C) → (gate : GateId)
    → (old new : Purger C) → Type 0
OneMore {C} sight gate old new = (number : ℕ) → (first : C) → (dues : ℕ)
    → HasPurged sight gate number first old dues
    → HasPurged sight gate number first new (dues + 1)

-- a purger that has had no tick
pub record IsNewPurger {C : Type 0} (gate : GateId) (purger : Purger C) : Type 0 where
  pub single : IsSingle gate purger.pass
  pub seen : purger.pass.seen ≡ []
  pub purges : purger.purges ≡ 0
  pub missed : purger.missed ≡ 0
  pub worn : purger.worn ≡ None
  pub failed : purger.failed ≡ false

-- What a purger that goes on has made of the Due answers of its ticker so far.
pub record Ticking {C T : Type 0} (sight : ClockSight C) (ticks : TickerSight T)
    (gate : GateId) (old new : Purger C) (ticker now : T) : Type 0 where
  pub dues : ℕ
  pub purged : HasPurged sight gate old.pass.number old.clock new dues
  pub told : Spends (ticks.due ticker) (ticks.due now) dues
  -- where it tells, fewer than 2 ^ 64 Due answers were to come
  pub few : (n : ℕ) → ticks.due ticker ≡ Some n → 0 < dues → n < 2 ^ 64
  pub faults : ticks.faults ticker ≤ ticks.faults now
  pub going : new.failed ≡ false

-- What a purger has made of all the Due answers of its ticker, which is over, or has failed.
pub record HasTicked {C T : Type 0} (sight : ClockSight C) (ticks : TickerSight T)
    (gate : GateId) (old new : Purger C) (ticker now : T) : Type 0 where
  pub dues : ℕ
  pub purged : HasPurged sight gate old.pass.number old.clock new dues
  pub told : Spends (ticks.due ticker) (ticks.due now) dues
  -- where it tells, fewer than 2 ^ 64 Due answers were to come
  pub few : (n : ℕ) → ticks.due ticker ≡ Some n → 0 < dues → n < 2 ^ 64
  pub failed : new.failed ≡ true → Rose (ticks.faults ticker) (ticks.faults now)
  pub over : new.failed ≡ false → ticks.over now
