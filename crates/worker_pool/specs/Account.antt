-- What a pass has done, said of a list of items that each made at most one entry. Nothing is known
-- of an item but its entry's place, and what it says of a history that its pass has seen.
use Rattle.std.specs.Prelude.{◌≡◌, ℕ, ◌+◌, nat_eq, if◌then◌else◌, List, [], ◌∷◌}
use Rattle.std.specs.List.{All, sum_by}
use Rattle.std.specs.declared.option.Option.{Option}
use Rattle.std.specs.declared.option.Option.TheVariants.{None, Some}
use Rattle.munge_types.specs.declared.history.Event.{Event}
use Rattle.replay_gate.specs.Makers.{maker}

-- the weight of a place, and 0 where there is none
abbrev pub at_place : (weight : ℕ → ℕ) → (place : Option ℕ) → ℕ
at_place weight None = 0
at_place weight (Some place) = weight place

-- the weight of the places of all entries of a pass, in a part of a history that begins at a place
abbrev pub made_by : (weight : ℕ → ℕ) → (number at : ℕ) → List Event → ℕ
made_by weight number at [] = 0
made_by weight number at (event ∷ events) =
    (if nat_eq (maker event) number then weight at else 0) + made_by weight number (at + 1) events

-- Each item stands in what was seen, and every entry of the number is just one item's, however
-- places are weighed.
pub record Account {X : Type 0} (place_of : X → Option ℕ)
    (stands : (seen : List Event) → (bound : ℕ) → X → Type 0)
    (number : ℕ) (seen : List Event) (bound : ℕ) (items : List X) : Type 0 where
  pub each : All (stands seen bound) items
  pub account : (weight : ℕ → ℕ)
      → sum_by (λ x. at_place weight (place_of x)) items ≡ made_by weight number 0 seen
