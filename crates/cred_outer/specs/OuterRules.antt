-- The decode rules 2 to 7, which look at the outside of a credential's body alone.
use Rattle.std.specs.Prelude.{ℕ, ◌+◌, ◌-◌, ◌%◌, Bool, true, false, not, ◌&&◌, ◌||◌, nat_eq, nat_lt, nat_le, if◌then◌else◌, List, [], ◌∷◌, length, slice_index}
use Rattle.std.specs.declared.option.Option.{Option}
use Rattle.std.specs.declared.option.Option.TheVariants.{None, Some}
use Rattle.munge_types.specs.Algorithms.{cipher_number, mac_number, mac_size}
use Rattle.munge_types.specs.declared.algorithms.Cipher.TheVariants as ciphers
use Rattle.munge_types.specs.declared.algorithms.MacKind.TheVariants.{Sha1, Sha256, Sha512}
use Rattle.munge_types.specs.declared.status.Status.{Status}
use Rattle.munge_types.specs.declared.status.Status.TheVariants.{BadCredential, BadVersion, BadCipher, BadMac, BadCompression, BadRealm}
use Rattle.cred_outer.specs.OuterPart.{version, no_compression, realm_size, head_size, vector_size}

-- the numbers of a body's head behind its version
abbrev pub cipher_in : List ℕ → ℕ
cipher_in body = slice_index body 1

abbrev pub mac_in : List ℕ → ℕ
mac_in body = slice_index body 2

abbrev pub compression_in : List ℕ → ℕ
compression_in body = slice_index body 3

abbrev pub realm_size_in : List ℕ → ℕ
realm_size_in body = slice_index body 4

-- no status where the test holds
abbrev pub unless : Bool → Status → Option Status
unless true status = None
unless false status = Some status

-- 2: the body is not empty, and begins with the version
abbrev pub version_rule : List ℕ → Option Status
version_rule [] = Some BadCredential
version_rule (number ∷ bytes) = unless (nat_eq number version) BadVersion

-- a cipher has this number
abbrev pub is_cipher : ℕ → Bool
is_cipher number =
    nat_eq number (cipher_number ciphers.None) || (nat_eq number (cipher_number ciphers.Aes128)
    || nat_eq number (cipher_number ciphers.Aes256))

-- 3: there is a whole head, and its cipher is none, AES-128 or AES-256
abbrev pub cipher_rule : List ℕ → Option Status
cipher_rule body =
    if nat_lt (length body) head_size then Some BadCredential
    else unless (is_cipher (cipher_in body)) BadCipher

-- a MAC has this number
abbrev pub is_mac : ℕ → Bool
is_mac number =
    nat_eq number (mac_number Sha1) || (nat_eq number (mac_number Sha256)
    || nat_eq number (mac_number Sha512))

-- AES-256 with SHA-1: the cipher's key has 32 bytes, and SHA-1 gives 20
abbrev pub key_too_long : (cipher kind : ℕ) → Bool
key_too_long cipher kind =
    nat_eq cipher (cipher_number ciphers.Aes256) && nat_eq kind (mac_number Sha1)

-- 4: the MAC is one with SHA-1, SHA-256 or SHA-512, long enough for the cipher's key
abbrev pub mac_rule : List ℕ → Option Status
mac_rule body =
    unless (is_mac (mac_in body) && not (key_too_long (cipher_in body) (mac_in body))) BadMac

-- 5: nothing is compressed
abbrev pub compression_rule : List ℕ → Option Status
compression_rule body = unless (nat_eq (compression_in body) no_compression) BadCompression

-- 6: there is no realm
abbrev pub realm_rule : List ℕ → Option Status
realm_rule body = unless (nat_eq (realm_size_in body) realm_size) BadRealm

-- the bytes of the initial vector of the cipher of this number
abbrev pub size_of_vector : ℕ → ℕ
size_of_vector number =
    if nat_eq number (cipher_number ciphers.None) then vector_size ciphers.None
    else if nat_eq number (cipher_number ciphers.Aes128) then vector_size ciphers.Aes128
    else vector_size ciphers.Aes256

-- the bytes of the MAC of this number
abbrev pub size_of_mac : ℕ → ℕ
size_of_mac number =
    if nat_eq number (mac_number Sha1) then mac_size Sha1
    else if nat_eq number (mac_number Sha256) then mac_size Sha256
    else mac_size Sha512

-- the bytes of a body before its sealed part: head, initial vector and MAC
abbrev pub sealed_at : List ℕ → ℕ
sealed_at body = head_size + size_of_vector (cipher_in body) + size_of_mac (mac_in body)

-- a sealed part may have this many bytes under the cipher of this number: any without a cipher,
-- else whole blocks of AES (FIPS 197), at least one
abbrev pub is_sealed_size : (cipher size : ℕ) → Bool
is_sealed_size cipher size =
    nat_eq cipher (cipher_number ciphers.None) || (nat_lt 0 size && nat_eq (size % 16) 0)

-- 7: initial vector and MAC fit in the body, and what is behind them may be a sealed part
abbrev pub size_rule : List ℕ → Option Status
size_rule body =
    unless (nat_le (sealed_at body) (length body)
    && is_sealed_size (cipher_in body) (length body - sealed_at body)) BadCredential

-- the rules, with their numbers and in their order
abbrev pub outer_rules : List ℕ → List (ℕ × Option Status)
outer_rules body =
    (2, version_rule body) ∷ (3, cipher_rule body) ∷ (4, mac_rule body)
    ∷ (5, compression_rule body) ∷ (6, realm_rule body) ∷ (7, size_rule body) ∷ []

-- the first rule of a table that is broken, with its status
abbrev pub first_broken : List (ℕ × Option Status) → Option (ℕ × Status)
first_broken [] = None
first_broken (line ∷ lines) = broken_or line.0 line.1 (first_broken lines)
  where
    broken_or : ℕ → Option Status → Option (ℕ × Status) → Option (ℕ × Status)
    broken_or rule None later = later
    broken_or rule (Some status) later = Some (rule, status)
