-- What contracts see of a connection, and of the clock that one call works with.
use Rattle.std.specs.Prelude.{◌≡◌, ℕ, List, [], ◌∷◌}
use Rattle.std.specs.declared.option.Option.{Option}
use Rattle.std.specs.declared.option.Option.TheVariants.{None, Some}
use Rattle.std.specs.Io.KnownBytes.{Consumes, Keeps}
use Rattle.byte_io.specs.Counts.{Rose}
use Rattle.session_core.specs.Things.{Input}

-- of a connection: where it comes from, the bytes that it took, where they are told, and how often
-- it asked the daemon to stop
pub record Connection : Type 0 where
  pub input : Input
  pub taken : Option (List ℕ)
  pub rings : ℕ

abbrev pub connection_of : Input → (taken : Option (List ℕ)) → (rings : ℕ) → Connection
connection_of input taken rings = record { input = input; taken = taken; rings = rings }

-- of a clock: the readings that it will give, where they are told; the last one that it gave; and
-- how many it gave
pub record Timing : Type 0 where
  pub readings : Option (List ℕ)
  pub last : ℕ
  pub given : ℕ

abbrev pub timing_of : (readings : Option (List ℕ)) → (last given : ℕ) → Timing
timing_of readings last given = record { readings = readings; last = last; given = given }

-- this reading was taken of the clock, or none
abbrev pub TakesReading : Timing → Timing → (moment : Option ℕ) → Type 0
TakesReading before after None =
    Keeps before.readings after.readings
    × (after.last ≡ before.last) × (after.given ≡ before.given)
TakesReading before after (Some moment) =
    Consumes before.readings after.readings (moment ∷ [])
    × (after.last ≡ moment) × Rose before.given after.given
