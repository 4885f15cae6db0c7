-- Lists that are told, and taken in their order.
use Rattle.std.specs.Prelude.{◌≡◌, ℕ, List, [], ◌∷◌, Option, Some, None}

-- where lists are told, the first of them is taken out, or an empty one past the last
abbrev pub TakesFirst : Option (List (List ℕ)) → Option (List (List ℕ)) → Option (List ℕ) → Type 0
TakesFirst None new taken = Unit {0}
TakesFirst (Some []) new taken = (new ≡ Some []) × (taken ≡ Some [])
TakesFirst (Some (list ∷ lists)) new taken = (new ≡ Some lists) × (taken ≡ Some list)
