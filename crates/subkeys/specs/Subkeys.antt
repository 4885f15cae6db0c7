-- The two subkeys of a key file.
use Rattle.std.specs.Prelude.{◌≡◌, ℕ, List, [], ◌∷◌, ◌++◌}
use Rattle.sha1.specs.Sha1.{sha1}

-- the subkey that data keys are derived from: SHA-1 of the key file's bytes and the byte 31
-- (hexadecimal)
abbrev pub cipher_subkey : List ℕ → List ℕ
cipher_subkey key = sha1 (key ++ 0x31 ∷ [])

-- the subkey of the MAC: SHA-1 of the key file's bytes and the byte 32 (hexadecimal)
abbrev pub mac_subkey : List ℕ → List ℕ
mac_subkey key = sha1 (key ++ 0x32 ∷ [])

-- what contracts see of a `Subkeys`
pub record SubkeyPair : Type 0 where
  pub cipher : List ℕ
  pub mac : List ℕ

-- the subkeys are those of the key file with these bytes
pub record IsOf (subkeys : SubkeyPair) (key : List ℕ) : Type 0 where
  pub cipher_is : subkeys.cipher ≡ cipher_subkey key
  pub mac_is : subkeys.mac ≡ mac_subkey key
