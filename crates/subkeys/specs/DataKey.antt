-- The key of a credential's cipher, made of its MAC.
use Rattle.std.specs.Prelude.{ℕ, List, take}
use Rattle.munge_types.specs.declared.algorithms.Cipher.{Cipher}
use Rattle.munge_types.specs.declared.algorithms.Cipher.TheVariants as cipher
use Rattle.munge_types.specs.declared.algorithms.MacKind.{MacKind}
use Rattle.hmac_core.specs.Hmac.{hmac}
use Rattle.subkeys.specs.Subkeys.{cipher_subkey}

-- the bytes of the cipher's key (FIPS 197, 5)
abbrev pub key_size : Cipher → ℕ
key_size cipher.None = 0
key_size cipher.Aes128 = 16
key_size cipher.Aes256 = 32

-- the first bytes of HMAC under the cipher's subkey over the MAC, as many as the cipher's key has
unfoldable pub data_key_under : Cipher → MacKind → List ℕ → List ℕ → List ℕ
data_key_under cipher kind subkey mac = take (key_size cipher) (hmac kind subkey mac)

-- the same for a key file with these bytes
abbrev pub data_key_of : Cipher → MacKind → List ℕ → List ℕ → List ℕ
data_key_of cipher kind key mac = data_key_under cipher kind (cipher_subkey key) mac
