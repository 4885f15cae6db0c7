-- What the words of a command line ask for, where they ask that a daemon stops.
use Rattle.std.specs.Prelude.{ℕ, bytes_eq, codes, if◌then◌else◌, List, [], ◌∷◌}
use Rattle.std.specs.declared.option.Option.{Option}
use Rattle.std.specs.declared.option.Option.TheVariants.{None, Some}

-- what a command of this name asks for, if it is `stop`
abbrev pub stop_with : (name config : List ℕ) → Option (List ℕ)
stop_with name config = if bytes_eq name (codes "stop") then Some config else None

-- the path of the option file by which the words ask a daemon to stop, if they do: `stop CONFIG`
abbrev pub stop_of : List (List ℕ) → Option (List ℕ)
stop_of (name ∷ config ∷ []) = stop_with name config
stop_of words = None
