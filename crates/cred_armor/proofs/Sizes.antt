-- How long an armour is.
use Rattle.std.proofs.Common.{◌≡◌, ℕ, ◌+◌, ◌*◌, List, ◌++◌, length, arith, length-append}
use Rattle.std.specs.Int.{div_ceil}
use Rattle.base64.specs.GeneralPurpose.{encode_of}
use Rattle.base64.specs.Engines.{standard}
use Rattle.base64.specs.Rfc4648.{padding_len, unpadded_len}
use Rattle.base64.proofs.RoundTrip.{length-encode_symbols}
use Rattle.std.proofs.lemmas.List.{length-replicate}
use Rattle.cred_armor.specs.CredentialText.{armor_of, closing_mark, opening_mark}

padded_len : (n : ℕ) → unpadded_len n + padding_len n ≡ 4 * div_ceil n 3
padded_len n = omega arith

length-encode_of : (body : List ℕ) → length (encode_of standard body) ≡ 4 * div_ceil (length body) 3
length-encode_of body = rw (length-append, length-encode_symbols, length-replicate) (padded_len (length body))

-- the marks, and four symbols for each three bytes or less
pub length-armor_of : (body : List ℕ) → length (armor_of body) ≡ 7 + 4 * div_ceil (length body) 3
length-armor_of body =
    omega (
      arith,
      length-append opening_mark (encode_of standard body ++ closing_mark),
      length-append (encode_of standard body) closing_mark,
      length-encode_of body,
    )
