-- How long a sealed text is.
use Rattle.std.specs.Prelude.{ℕ, ◌+◌, length}
use Rattle.std.specs.declared.option.Option.{Option}
use Rattle.std.specs.declared.option.Option.TheVariants.{None, Some}
use Rattle.munge_types.specs.declared.algorithms.Cipher.{Cipher}
use Rattle.munge_types.specs.declared.algorithms.MacKind.{MacKind}
use Rattle.cred_armor.specs.Armoring.{armor_size}
use Rattle.cred_seal.specs.Asked.{Asked, cipher_asked, mac_asked}
use Rattle.cred_seal.specs.PlainPart.{body_size}
use Rattle.cred_seal.specs.SealRefused.{first_refusal}
use Rattle.cred_seal.specs.declared.sealing.SealRefused.{SealRefused}

-- the bytes of the text with a payload of this many, sealed by these algorithms
abbrev pub sealed_size : Cipher → MacKind → (payload : ℕ) → ℕ
sealed_size cipher kind payload = armor_size (body_size cipher kind (41 + payload))

-- the same for the MAC that is asked for with the cipher, and for the cipher that is asked for
abbrev pub size_by_mac : Asked → Cipher → Option MacKind → ℕ
size_by_mac asked cipher None = 0
size_by_mac asked cipher (Some kind) = sealed_size cipher kind (length asked.payload)

abbrev pub size_by_cipher : Asked → Option Cipher → ℕ
size_by_cipher asked None = 0
size_by_cipher asked (Some cipher) = size_by_mac asked cipher (mac_asked cipher asked.kind)

-- nothing where the request is refused
abbrev pub unless_refused : Asked → Option SealRefused → ℕ
unless_refused asked (Some refused) = 0
unless_refused asked None = size_by_cipher asked (cipher_asked asked.cipher)

-- the bytes of the text that is sealed for a request, and 0 where it is refused
abbrev pub text_size : Asked → ℕ
text_size asked = unless_refused asked (first_refusal asked)
