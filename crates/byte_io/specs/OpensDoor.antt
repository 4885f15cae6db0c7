-- Doors that are told with their paths.
use Rattle.std.specs.Prelude.{◌≡◌, ℕ, List, [], ◌∷◌, find, bytes_eq, option_map, Option, Some, None, Result, Ok, Err, if◌then◌else◌}
use Rattle.byte_io.specs.declared.files.FileFail.{FileFail}

-- the first door of that path
abbrev pub door_of : {D : Type 0} → List (List ℕ × D) → List ℕ → Option D
door_of doors path = option_map (λ named. named.1) (find (λ named. bytes_eq named.0 path) doors)

-- the doors without the first of that path
abbrev pub without_door : {D : Type 0} → List (List ℕ × D) → List ℕ → List (List ℕ × D)
without_door [] path = []
without_door (named ∷ doors) path =
    if bytes_eq named.0 path then doors else named ∷ without_door doors path

-- where doors are told, the first of that path is given and taken out, and a failure leaves them
abbrev pub OpensDoor : {D : Type 0} → Option (List (List ℕ × D)) → Option (List (List ℕ × D))
    → List ℕ → Result D FileFail → Type 0
OpensDoor None new path result = Unit {0}
OpensDoor (Some doors) new path (Ok door) =
    (door_of doors path ≡ Some door) × (new ≡ Some (without_door doors path))
OpensDoor (Some doors) new path (Err _) = new ≡ Some doors
