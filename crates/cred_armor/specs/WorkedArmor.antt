-- Worked armours, which the checker computes. The base64 is that of RFC 4648: the whole alphabet of
-- its section 4, in order, and the examples of its section 10.
use Rattle.std.specs.Prelude.{◌≡◌, ℕ, List, [], ◌∷◌, codes, refl}
use Rattle.base64.specs.Rfc4648.{encode_symbols}
use Rattle.cred_armor.specs.CredentialText.{armor_of}

-- the 48 bytes whose base64 is the alphabet
abbrev pub alphabet_body : List ℕ
alphabet_body =
    0x00 ∷ 0x10 ∷ 0x83 ∷ 0x10 ∷ 0x51 ∷ 0x87 ∷ 0x20 ∷ 0x92
    ∷ 0x8b ∷ 0x30 ∷ 0xd3 ∷ 0x8f ∷ 0x41 ∷ 0x14 ∷ 0x93 ∷ 0x51
    ∷ 0x55 ∷ 0x97 ∷ 0x61 ∷ 0x96 ∷ 0x9b ∷ 0x71 ∷ 0xd7 ∷ 0x9f
    ∷ 0x82 ∷ 0x18 ∷ 0xa3 ∷ 0x92 ∷ 0x59 ∷ 0xa7 ∷ 0xa2 ∷ 0x9a
    ∷ 0xab ∷ 0xb2 ∷ 0xdb ∷ 0xaf ∷ 0xc3 ∷ 0x1c ∷ 0xb3 ∷ 0xd3
    ∷ 0x5d ∷ 0xb7 ∷ 0xe3 ∷ 0x9e ∷ 0xbb ∷ 0xf3 ∷ 0xdf ∷ 0xbf ∷ []

pub armor_of_the_alphabet : armor_of alphabet_body ≡
    codes "MUNGE:ABCDEFGHIJKLMNOPQRSTUVWXYZabcdefghijklmnopqrstuvwxyz0123456789+/:"
unfolding encode_symbols
armor_of_the_alphabet = refl

-- nothing between the marks
pub armor_of_nothing : armor_of (codes "") ≡ codes "MUNGE::"
unfolding encode_symbols
armor_of_nothing = refl

-- two bytes of padding
pub armor_of_one_byte : armor_of (codes "f") ≡ codes "MUNGE:Zg==:"
unfolding encode_symbols
armor_of_one_byte = refl

-- one
pub armor_of_two_bytes : armor_of (codes "fo") ≡ codes "MUNGE:Zm8=:"
unfolding encode_symbols
armor_of_two_bytes = refl

-- and none
pub armor_of_three_bytes : armor_of (codes "foo") ≡ codes "MUNGE:Zm9v:"
unfolding encode_symbols
armor_of_three_bytes = refl

-- a whole group, and one byte behind it
pub armor_of_four_bytes : armor_of (codes "foob") ≡ codes "MUNGE:Zm9vYg==:"
unfolding encode_symbols
armor_of_four_bytes = refl
