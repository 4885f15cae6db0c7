-- What the words of a command line ask for, where they ask that a daemon serves.
use Rattle.std.specs.Prelude.{ℕ, bytes_eq, codes, if◌then◌else◌, List, [], ◌∷◌}
use Rattle.std.specs.declared.option.Option.{Option}
use Rattle.std.specs.declared.option.Option.TheVariants.{None, Some}

-- what a command of this name asks for, if it is `serve`
abbrev pub serve_with : (name config : List ℕ) → Option (List ℕ)
serve_with name config = if bytes_eq name (codes "serve") then Some config else None

-- the path of the option file by which the words ask a daemon to serve, if they do: `serve CONFIG`
abbrev pub serve_of : List (List ℕ) → Option (List ℕ)
serve_of (name ∷ config ∷ []) = serve_with name config
serve_of words = None
