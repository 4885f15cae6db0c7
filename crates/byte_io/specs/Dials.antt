-- Paths that were dialled.
use Rattle.std.specs.Prelude.{◌≡◌, ℕ, List, [], ◌∷◌, ◌++◌, Option, Some, None}

-- where the paths are told, this one was appended
abbrev pub Dials : Option (List (List ℕ)) → Option (List (List ℕ)) → List ℕ → Type 0
Dials None new path = Unit {0}
Dials (Some paths) new path = new ≡ Some (paths ++ path ∷ [])
