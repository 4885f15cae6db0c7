-- A text without the spaces at its ends.
use Rattle.std.specs.Prelude.{ℕ, if◌then◌else◌, List, [], ◌∷◌}
use Rattle.std.specs.List.{list_all}
use Rattle.cred_armor.specs.CredentialText.{is_space}

-- without those in front
abbrev pub trim_front : List ℕ → List ℕ
trim_front [] = []
trim_front (byte ∷ bytes) = if is_space byte then trim_front bytes else byte ∷ bytes

-- without those behind
abbrev pub trim_back : List ℕ → List ℕ
trim_back [] = []
trim_back (byte ∷ bytes) = if list_all is_space (byte ∷ bytes) then [] else byte ∷ trim_back bytes
