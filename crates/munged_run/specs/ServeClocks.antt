-- The clocks of a daemon.
use Rattle.std.specs.Prelude.{◌≡◌, ℕ, List, [], ◌∷◌}
use Rattle.std.specs.declared.option.Option.{Option}
use Rattle.byte_io.specs.TakesFirst.{TakesFirst}
use Rattle.worker_pool.specs.Purging.{ClockSight}

-- the clock has given no reading yet, and has not failed
pub record IsNewClock {C : Type 0} (sight : ClockSight C) (clock : C) : Type 0 where
  pub last : (sight.timing clock).last ≡ 0
  pub given : (sight.timing clock).given ≡ 0
  pub faults : sight.faults clock ≡ 0

-- These clocks were handed out, in order. Where the readings of those to come are told, each has
-- the first list of them, and none past the last list.
abbrev pub ClocksTaken : {C : Type 0} → ClockSight C → List C
    → (before after : Option (List (List ℕ))) → Type 0
ClocksTaken sight [] before after = after ≡ before
ClocksTaken sight (clock ∷ clocks) before after =
    (between : Option (List (List ℕ))) × IsNewClock sight clock
    × TakesFirst before between (sight.timing clock).readings
    × ClocksTaken sight clocks between after
