-- Why a request is not sealed.
use Rattle.std.specs.Prelude.{◌≡◌, nat_lt, if◌then◌else◌, length}
use Rattle.std.specs.declared.option.Option.{Option}
use Rattle.std.specs.declared.option.Option.TheVariants.{None, Some}
use Rattle.munge_types.specs.declared.algorithms.Cipher.{Cipher}
use Rattle.munge_types.specs.declared.algorithms.MacKind.{MacKind}
use Rattle.cred_inner.specs.InnerPart.{payload_limit}
use Rattle.cred_seal.specs.Asked.{Asked, cipher_asked, mac_asked}
use Rattle.cred_seal.specs.declared.sealing.SealRefused.{SealRefused}
use Rattle.cred_seal.specs.declared.sealing.SealRefused.TheVariants.{BadCipher, BadMac, BadLength, NoMemory}

-- the first cause to refuse a request: there is no such cipher, or no such MAC with it, or the
-- payload is too long
abbrev pub first_refusal : Asked → Option SealRefused
first_refusal asked = by_cipher (cipher_asked asked.cipher)
  where
    by_mac : Option MacKind → Option SealRefused
    by_mac None = Some BadMac
    by_mac (Some kind) =
        if nat_lt payload_limit (length asked.payload)
        then Some (BadLength (length asked.payload))
        else None

    by_cipher : Option Cipher → Option SealRefused
    by_cipher None = Some BadCipher
    by_cipher (Some cipher) = by_mac (mac_asked cipher asked.kind)

-- it is the first cause, or there is none but want of memory
abbrev pub IsRefusal : Asked → SealRefused → Type 0
IsRefusal asked BadCipher = first_refusal asked ≡ Some BadCipher
IsRefusal asked BadMac = first_refusal asked ≡ Some BadMac
IsRefusal asked (BadLength size) = first_refusal asked ≡ Some (BadLength size)
IsRefusal asked NoMemory = first_refusal asked ≡ None
