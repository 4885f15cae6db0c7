-- What stands in a credential's body before its MAC.
use Rattle.std.specs.Prelude.{ℕ, ◌+◌, List, [], ◌∷◌, ◌++◌}
use Rattle.munge_types.specs.Algorithms.{cipher_number, mac_number}
use Rattle.munge_types.specs.declared.algorithms.Cipher.{Cipher}
use Rattle.munge_types.specs.declared.algorithms.Cipher.TheVariants as cipher
use Rattle.munge_types.specs.declared.algorithms.MacKind.{MacKind}

-- the version of the format
abbrev pub version : ℕ
version = 3

-- the number that says that nothing is compressed
abbrev pub no_compression : ℕ
no_compression = 0

-- the length of a realm: there is none
abbrev pub realm_size : ℕ
realm_size = 0

-- the bytes before the realm and the initial vector
abbrev pub head_size : ℕ
head_size = 5

-- the initial vector of a cipher: none without a cipher, else one block of AES (FIPS 197)
abbrev pub vector_size : Cipher → ℕ
vector_size cipher.None = 0
vector_size cipher.Aes128 = 16
vector_size cipher.Aes256 = 16

-- version, cipher, MAC, no compression, no realm
abbrev pub outer_head : Cipher → MacKind → List ℕ
outer_head cipher kind =
    version ∷ cipher_number cipher ∷ mac_number kind ∷ no_compression ∷ realm_size ∷ []

-- the head, and behind it the initial vector
abbrev pub outer_part : Cipher → MacKind → (vector : List ℕ) → List ℕ
outer_part cipher kind vector = outer_head cipher kind ++ vector

-- its bytes
abbrev pub outer_size : Cipher → ℕ
outer_size cipher = head_size + vector_size cipher
