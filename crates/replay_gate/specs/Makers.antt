-- Which pass made an event.
use Rattle.std.specs.Prelude.{◌≡◌, ℕ, Bool, true, nat_eq, List, [], ◌∷◌}
use Rattle.std.specs.List.{list_any}
use Rattle.munge_types.specs.declared.history.Event.{Event}
use Rattle.munge_types.specs.declared.history.Event.TheVariants.{Admit, Purge, Idle}

-- the number of the pass that made the event
abbrev pub maker : Event → ℕ
maker (Admit pass pair moment) = pass
maker (Purge pass moment) = pass
maker (Idle pass) = pass

-- whether the number is one of these
abbrev pub is_of : List ℕ → ℕ → Bool
is_of numbers number = list_any (nat_eq number) numbers

-- the number is one of these
abbrev pub IsOf : List ℕ → ℕ → Type 0
IsOf numbers number = is_of numbers number ≡ true

-- no number is among both
abbrev pub AreApart : List ℕ → List ℕ → Type 0
AreApart numbers others = (number : ℕ) → IsOf numbers number → IsOf others number → ⊥

-- whether a pass with one of these numbers made one of the events
abbrev pub any_by : List ℕ → List Event → Bool
any_by numbers events = list_any (λ event. is_of numbers (maker event)) events

-- the pass with this number made one of the events
abbrev pub HasMade : List Event → ℕ → Type 0
HasMade events number = any_by (number ∷ []) events ≡ true

-- who made one of the events has one of these numbers
abbrev pub AreMadeBy : List ℕ → List Event → Type 0
AreMadeBy numbers events = (number : ℕ) → HasMade events number → IsOf numbers number
