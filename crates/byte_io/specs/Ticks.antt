-- What a ticker answers.
use Rattle.std.specs.Prelude.{◌≡◌, ℕ, ◌+◌, Option, Some, None, IsSomeAnd}
use Rattle.byte_io.specs.Counts.{Rose, raised}
use Rattle.byte_io.specs.declared.ticker.Tick.{Tick}
use Rattle.byte_io.specs.declared.ticker.Tick.TheVariants.{Due, Stop, Failed}

-- where the number of Due answers to come is told, Due lowers it by one, and another answer leaves
-- it
abbrev pub Ticks : Option ℕ → Option ℕ → Tick → Type 0
Ticks None new tick = Unit {0}
Ticks (Some n) new Due = IsSomeAnd new (λ left. n ≡ left + 1)
Ticks (Some n) new Stop = new ≡ Some n
Ticks (Some n) new Failed = new ≡ Some n

-- what holds where the answer is Stop
abbrev pub OnStop : Tick → Type 0 → Type 0
OnStop Due fact = Unit {0}
OnStop Stop fact = fact
OnStop Failed fact = Unit {0}

-- the count of faults rose where the answer is a fault, and stands where it is another
abbrev pub CountsTickFault : Tick → ℕ → ℕ → Type 0
CountsTickFault Due before now = now ≡ before
CountsTickFault Stop before now = now ≡ before
CountsTickFault Failed before now = Rose before now

-- the count of faults after an answer that raises it by one where it is a fault
abbrev pub faults_after_tick : Tick → ℕ → ℕ
faults_after_tick Due count = count
faults_after_tick Stop count = count
faults_after_tick Failed count = raised count
