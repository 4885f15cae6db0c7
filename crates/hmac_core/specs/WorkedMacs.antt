-- Worked MACs, which the checker computes: the first test case of RFC 2202 and of RFC 4231, and
-- from each one with a key longer than a block.
use Rattle.std.specs.Prelude.{◌≡◌, ℕ, List, [], ◌∷◌, codes, replicate, refl}
use Rattle.sha1.specs.Sha1 as standard1
use Rattle.sha2.specs.Sha256 as standard256
use Rattle.sha2.specs.Sha512 as standard512
use Rattle.munge_types.specs.declared.algorithms.MacKind.TheVariants.{Sha1, Sha256, Sha512}
use Rattle.hmac_core.specs.Hmac.{hmac}

-- the key of the first cases
abbrev pub worked_key : List ℕ
worked_key = replicate 20 0x0b

-- their text
abbrev pub worked_text : List ℕ
worked_text = codes "Hi There"

-- a key of this many bytes, longer than a block
abbrev pub long_key : (size : ℕ) → List ℕ
long_key size = replicate size 0xaa

-- the text under it
abbrev pub long_key_text : List ℕ
long_key_text = codes "Test Using Larger Than Block-Size Key - Hash Key First"

-- with SHA-1 (RFC 2202, section 3)
pub mac_by_sha1 : hmac Sha1 worked_key worked_text ≡
    0xb6 ∷ 0x17 ∷ 0x31 ∷ 0x86 ∷ 0x55 ∷ 0x05 ∷ 0x72 ∷ 0x64
    ∷ 0xe2 ∷ 0x8b ∷ 0xc0 ∷ 0xb6 ∷ 0xfb ∷ 0x37 ∷ 0x8c ∷ 0x8e
    ∷ 0xf1 ∷ 0x46 ∷ 0xbe ∷ 0x00 ∷ []
unfolding standard1.first_words standard1.schedule standard1.rounds standard1.compress
    standard1.hash_after standard1.digest_bytes standard1.sha1 hmac
mac_by_sha1 = refl

-- with SHA-256 (RFC 4231, section 4.2)
pub mac_by_sha256 : hmac Sha256 worked_key worked_text ≡
    0xb0 ∷ 0x34 ∷ 0x4c ∷ 0x61 ∷ 0xd8 ∷ 0xdb ∷ 0x38 ∷ 0x53
    ∷ 0x5c ∷ 0xa8 ∷ 0xaf ∷ 0xce ∷ 0xaf ∷ 0x0b ∷ 0xf1 ∷ 0x2b
    ∷ 0x88 ∷ 0x1d ∷ 0xc2 ∷ 0x00 ∷ 0xc9 ∷ 0x83 ∷ 0x3d ∷ 0xa7
    ∷ 0x26 ∷ 0xe9 ∷ 0x37 ∷ 0x6c ∷ 0x2e ∷ 0x32 ∷ 0xcf ∷ 0xf7 ∷ []
unfolding standard256.first_words standard256.schedule standard256.rounds standard256.compress
    standard256.hash_after standard256.digest_bytes standard256.sha256 hmac
mac_by_sha256 = refl

-- with SHA-512 (RFC 4231, section 4.2)
pub mac_by_sha512 : hmac Sha512 worked_key worked_text ≡
    0x87 ∷ 0xaa ∷ 0x7c ∷ 0xde ∷ 0xa5 ∷ 0xef ∷ 0x61 ∷ 0x9d
    ∷ 0x4f ∷ 0xf0 ∷ 0xb4 ∷ 0x24 ∷ 0x1a ∷ 0x1d ∷ 0x6c ∷ 0xb0
    ∷ 0x23 ∷ 0x79 ∷ 0xf4 ∷ 0xe2 ∷ 0xce ∷ 0x4e ∷ 0xc2 ∷ 0x78
    ∷ 0x7a ∷ 0xd0 ∷ 0xb3 ∷ 0x05 ∷ 0x45 ∷ 0xe1 ∷ 0x7c ∷ 0xde
    ∷ 0xda ∷ 0xa8 ∷ 0x33 ∷ 0xb7 ∷ 0xd6 ∷ 0xb8 ∷ 0xa7 ∷ 0x02
    ∷ 0x03 ∷ 0x8b ∷ 0x27 ∷ 0x4e ∷ 0xae ∷ 0xa3 ∷ 0xf4 ∷ 0xe4
    ∷ 0xbe ∷ 0x9d ∷ 0x91 ∷ 0x4e ∷ 0xeb ∷ 0x61 ∷ 0xf1 ∷ 0x70
    ∷ 0x2e ∷ 0x69 ∷ 0x6c ∷ 0x20 ∷ 0x3a ∷ 0x12 ∷ 0x68 ∷ 0x54 ∷ []
unfolding standard512.first_words standard512.schedule standard512.rounds standard512.compress
    standard512.hash_after standard512.digest_bytes standard512.sha512 hmac
mac_by_sha512 = refl

-- with SHA-1, under a key of eighty bytes, which is hashed first (RFC 2202, section 3, the sixth)
pub mac_by_sha1_under_a_long_key : hmac Sha1 (long_key 80) long_key_text ≡
    0xaa ∷ 0x4a ∷ 0xe5 ∷ 0xe1 ∷ 0x52 ∷ 0x72 ∷ 0xd0 ∷ 0x0e
    ∷ 0x95 ∷ 0x70 ∷ 0x56 ∷ 0x37 ∷ 0xce ∷ 0x8a ∷ 0x3b ∷ 0x55
    ∷ 0xed ∷ 0x40 ∷ 0x21 ∷ 0x12 ∷ []
unfolding standard1.first_words standard1.schedule standard1.rounds standard1.compress
    standard1.hash_after standard1.digest_bytes standard1.sha1 hmac
mac_by_sha1_under_a_long_key = refl

-- with SHA-256, under such a key of 131 bytes (RFC 4231, section 4.7)
pub mac_by_sha256_under_a_long_key : hmac Sha256 (long_key 131) long_key_text ≡
    0x60 ∷ 0xe4 ∷ 0x31 ∷ 0x59 ∷ 0x1e ∷ 0xe0 ∷ 0xb6 ∷ 0x7f
    ∷ 0x0d ∷ 0x8a ∷ 0x26 ∷ 0xaa ∷ 0xcb ∷ 0xf5 ∷ 0xb7 ∷ 0x7f
    ∷ 0x8e ∷ 0x0b ∷ 0xc6 ∷ 0x21 ∷ 0x37 ∷ 0x28 ∷ 0xc5 ∷ 0x14
    ∷ 0x05 ∷ 0x46 ∷ 0x04 ∷ 0x0f ∷ 0x0e ∷ 0xe3 ∷ 0x7f ∷ 0x54 ∷ []
unfolding standard256.first_words standard256.schedule standard256.rounds standard256.compress
    standard256.hash_after standard256.digest_bytes standard256.sha256 hmac
mac_by_sha256_under_a_long_key = refl
