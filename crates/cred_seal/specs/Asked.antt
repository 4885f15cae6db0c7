-- What a client asks to be sealed, and the algorithms that it asks for.
use Rattle.std.specs.Prelude.{ℕ, nat_eq, ◌||◌, if◌then◌else◌, List}
use Rattle.std.specs.declared.option.Option.{Option}
use Rattle.std.specs.declared.option.Option.TheVariants.{None, Some}
use Rattle.munge_types.specs.Algorithms.{cipher_number, mac_number}
use Rattle.munge_types.specs.declared.algorithms.Cipher.{Cipher}
use Rattle.munge_types.specs.declared.algorithms.Cipher.TheVariants as cipher
use Rattle.munge_types.specs.declared.algorithms.MacKind.{MacKind}
use Rattle.munge_types.specs.declared.algorithms.MacKind.TheVariants.{Sha1, Sha256, Sha512}
use Rattle.cred_seal.specs.declared.request.SealRequest.{SealRequest}

-- the request as its numbers and the bytes of its payload
pub record Asked : Type 0 where
  -- the numbers of the cipher and of the MAC
  pub cipher : ℕ
  pub kind : ℕ
  -- the seconds for which it is to be good
  pub ttl : ℕ
  -- who alone may open it, or `any`
  pub for_uid : ℕ
  pub for_gid : ℕ
  pub payload : List ℕ

-- what contracts see of a `SealRequest`
abbrev pub asked_of : SealRequest → Asked
asked_of request =
    record {
      cipher = request.cipher;
      kind = request.kind;
      ttl = request.ttl;
      for_uid = request.for_uid;
      for_gid = request.for_gid;
      payload = request.payload.now;
    }

-- the number that asks for the default
abbrev pub default : ℕ
default = 1

-- the cipher that a number asks for: its own number does, and the default is AES-128
abbrev pub cipher_asked : ℕ → Option Cipher
cipher_asked number =
    if nat_eq number (cipher_number cipher.None) then Some cipher.None
    else if nat_eq number (cipher_number cipher.Aes128) || nat_eq number default
    then Some cipher.Aes128
    else if nat_eq number (cipher_number cipher.Aes256) then Some cipher.Aes256
    else None

-- SHA-1, but with AES-256: such a key has 32 bytes, and SHA-1 gives 20
abbrev pub sha1_with : Cipher → Option MacKind
sha1_with cipher.None = Some Sha1
sha1_with cipher.Aes128 = Some Sha1
sha1_with cipher.Aes256 = None

-- the MAC that a number asks for with a cipher: its own number does, and the default is SHA-256
abbrev pub mac_asked : Cipher → ℕ → Option MacKind
mac_asked cipher number =
    if nat_eq number (mac_number Sha1) then sha1_with cipher
    else if nat_eq number (mac_number Sha256) || nat_eq number default then Some Sha256
    else if nat_eq number (mac_number Sha512) then Some Sha512
    else None
