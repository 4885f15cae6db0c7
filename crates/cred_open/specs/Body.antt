-- A credential's body, as an equation on its bytes.
use Rattle.std.specs.Prelude.{◌≡◌, ℕ, List, ◌++◌, length}
use Rattle.munge_types.specs.declared.algorithms.Cipher.{Cipher}
use Rattle.munge_types.specs.declared.algorithms.Cipher.TheVariants as ciphers
use Rattle.munge_types.specs.declared.algorithms.MacKind.{MacKind}
use Rattle.cbc_mode.specs.Cbc.{cbc}
use Rattle.cbc_mode.specs.Padding.{padded}
use Rattle.hmac_core.specs.Hmac.{hmac}
use Rattle.subkeys.specs.DataKey.{data_key_of}
use Rattle.subkeys.specs.Subkeys.{mac_subkey}
use Rattle.munge_types.specs.Bytes.{IsBytes}
use Rattle.cred_outer.specs.OuterPart.{outer_part, vector_size}

-- The sealed part of an inner part. Without a cipher that is the inner part itself. Else it is the
-- padded inner part (RFC 5652), encrypted in CBC mode (NIST SP 800-38A) under the key that the MAC
-- gives.
abbrev pub Seals : (key : List ℕ) → Cipher → MacKind → (vector mac inner sealed : List ℕ) → Type 0
Seals key ciphers.None kind vector mac inner sealed = sealed ≡ inner
Seals key ciphers.Aes128 kind vector mac inner sealed =
    sealed ≡ cbc (data_key_of ciphers.Aes128 kind key mac) vector (padded inner)
Seals key ciphers.Aes256 kind vector mac inner sealed =
    sealed ≡ cbc (data_key_of ciphers.Aes256 kind key mac) vector (padded inner)

-- the MAC of a credential: HMAC under the MAC's subkey over the outer part and the plain inner
-- part, without padding
abbrev pub mac_of : (key : List ℕ) → Cipher → MacKind → (vector inner : List ℕ) → List ℕ
mac_of key cipher kind vector inner =
    hmac kind (mac_subkey key) (outer_part cipher kind vector ++ inner)

-- the body of the credential that has this inner part: outer part, MAC and sealed part
pub record IsBody
    (key : List ℕ) (cipher : Cipher) (kind : MacKind) (vector inner body : List ℕ) : Type 0 where
  pub sealed : List ℕ
  pub vector_fits : length vector ≡ vector_size cipher
  pub vector_bytes : IsBytes vector
  pub inner_bytes : IsBytes inner
  pub seals : Seals key cipher kind vector (mac_of key cipher kind vector inner) inner sealed
  pub whole : body
      ≡ outer_part cipher kind vector ++ (mac_of key cipher kind vector inner ++ sealed)
