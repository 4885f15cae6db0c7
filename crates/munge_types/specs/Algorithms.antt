-- The numbers of ciphers and MACs in a credential, and the size of a MAC.
use Rattle.std.specs.Prelude.{ℕ}
use Rattle.munge_types.specs.declared.algorithms.Cipher.{Cipher}
use Rattle.munge_types.specs.declared.algorithms.Cipher.TheVariants as cipher
use Rattle.munge_types.specs.declared.algorithms.MacKind.{MacKind}
use Rattle.munge_types.specs.declared.algorithms.MacKind.TheVariants.{Sha1, Sha256, Sha512}

-- the number of a cipher in a credential
abbrev pub cipher_number : Cipher → ℕ
cipher_number cipher.None = 0
cipher_number cipher.Aes128 = 4
cipher_number cipher.Aes256 = 5

-- the number of a MAC in a credential
abbrev pub mac_number : MacKind → ℕ
mac_number Sha1 = 3
mac_number Sha256 = 5
mac_number Sha512 = 6

-- the bytes of a MAC (FIPS 180-4, the digest sizes)
abbrev pub mac_size : MacKind → ℕ
mac_size Sha1 = 20
mac_size Sha256 = 32
mac_size Sha512 = 64
