-- An armour that is written part by part, behind what a room held before.
use Rattle.std.specs.Prelude.{◌≡◌, ℕ, ◌+◌, ◌*◌, ◌%◌, ◌<◌, ◌≤◌, List, [], ◌++◌, length, drop}
use Rattle.std.specs.Int.{div_ceil}
use Rattle.std.specs.declared.result.Result.{Result}
use Rattle.std.specs.declared.result.Result.TheVariants.{Ok, Err}
use Rattle.base64.specs.declared.decode.DecodeError.{DecodeError}
use Rattle.base64.specs.Engines.{standard}
use Rattle.base64.specs.GeneralPurpose.{IsBytes, decode_of, encode_of}
use Rattle.cred_armor.specs.CredentialText.{opening_mark}

-- how many bytes the armour of n bytes has: the marks, and four for each begun three
abbrev pub armor_size : ℕ → ℕ
armor_size n = 7 + 4 * div_ceil n 3

-- what contracts see of an armour in the making
pub record Armoring : Type 0 where
  -- what the room held before it
  pub base : List ℕ
  -- the bytes of all parts so far
  pub taken : List ℕ
  -- how many more bytes it takes
  pub spare : ℕ

abbrev pub body_or_none : Result (List ℕ) DecodeError → List ℕ
body_or_none (Ok body) = body
body_or_none (Err error) = []

-- the body that a base64 text spells, and nothing where it spells none
unfoldable pub spelled_body : List ℕ → List ℕ
spelled_body text = body_or_none (decode_of standard text)

-- the same where the text follows an opening mark that stands at this place
unfoldable pub spelled_from : ℕ → List ℕ → List ℕ
spelled_from start bytes = spelled_body (drop (start + 6) bytes)

-- From a place on, a room holds an opening mark and the base64 of whole groups of three bytes. Fewer
-- than three bytes wait, and with as many more as are still taken they fit, with a closing mark.
pub record IsBegun (bytes : List ℕ) (start count left spare : ℕ) : Type 0 where
  pub within : start ≤ length bytes
  pub begun : drop start bytes ≡ opening_mark ++ encode_of standard (spelled_from start bytes)
  pub bytes_of : IsBytes (spelled_from start bytes)
  pub groups : length (spelled_from start bytes) % 3 ≡ 0
  pub few : count < 3
  pub room : 4 * div_ceil (count + left) 3 + 1 ≤ spare
