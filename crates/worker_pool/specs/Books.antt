-- What a book tells.
use Rattle.std.specs.Prelude.{◌≡◌, List, [], ◌∷◌, ◌++◌}
use Rattle.std.specs.declared.option.Option.{Option}
use Rattle.std.specs.declared.option.Option.TheVariants.{None, Some}
use Rattle.worker_pool.specs.declared.handled.Handled.{Handled}

-- where the book tells after it took this, it told before, and this was appended
abbrev pub Appended : {L : Type 0} → Option (List (Handled L)) → Handled L
    → Option (List (Handled L)) → Type 0
Appended old handled None = Unit {0}
Appended old handled (Some list) =
    (before : List (Handled _)) × (old ≡ Some before) × (list ≡ before ++ handled ∷ [])

-- where the book tells, it holds just these
abbrev pub Holds : {L : Type 0} → (told : Option (List (Handled L))) → List (Handled L) → Type 0
Holds None list = Unit {0}
Holds (Some told) list = told ≡ list
