-- Worked encryptions, which the checker computes: the examples of FIPS 197, appendix C in its
-- edition of 2001, for keys of 128 and of 256 bits.
use Rattle.std.specs.Prelude.{◌≡◌, ℕ, List, [], ◌∷◌, refl}
use Rattle.std.specs.List.{range_with_len}
use Rattle.aes_block.specs.Field.{every_byte, bit, xtimes, sum_of_powers, ◌•◌, inverse}
use Rattle.aes_block.specs.SubBytes.{affine_bit, affine, sub_byte}
use Rattle.aes_block.specs.Rounds.{round, last_round}
use Rattle.aes_block.specs.KeyExpansion.{power_of_x, rcon, added_word, next_word, key_words, expanded_by, expanded_key, round_key}
use Rattle.aes_block.specs.Cipher.{rounds, finished, encrypted, cipher}

-- the block of the examples, 00 11 22 .. ff
abbrev pub worked_block : List ℕ
worked_block =
    0x00 ∷ 0x11 ∷ 0x22 ∷ 0x33 ∷ 0x44 ∷ 0x55 ∷ 0x66 ∷ 0x77
    ∷ 0x88 ∷ 0x99 ∷ 0xaa ∷ 0xbb ∷ 0xcc ∷ 0xdd ∷ 0xee ∷ 0xff ∷ []

-- their key of this many bytes, 00 01 02 ..
abbrev pub worked_key : (size : ℕ) → List ℕ
worked_key size = range_with_len 0 size

-- with a key of 128 bits
pub encrypted_under_128_bits : cipher (worked_key 16) worked_block ≡
    0x69 ∷ 0xc4 ∷ 0xe0 ∷ 0xd8 ∷ 0x6a ∷ 0x7b ∷ 0x04 ∷ 0x30
    ∷ 0xd8 ∷ 0xcd ∷ 0xb7 ∷ 0x80 ∷ 0x70 ∷ 0xb4 ∷ 0xc5 ∷ 0x5a ∷ []
unfolding every_byte bit xtimes sum_of_powers ◌•◌ inverse affine_bit affine sub_byte round
    last_round power_of_x rcon added_word next_word key_words expanded_by expanded_key round_key
    rounds finished encrypted cipher
encrypted_under_128_bits = refl

-- with a key of 256 bits
pub encrypted_under_256_bits : cipher (worked_key 32) worked_block ≡
    0x8e ∷ 0xa2 ∷ 0xb7 ∷ 0xca ∷ 0x51 ∷ 0x67 ∷ 0x45 ∷ 0xbf
    ∷ 0xea ∷ 0xfc ∷ 0x49 ∷ 0x90 ∷ 0x4b ∷ 0x49 ∷ 0x60 ∷ 0x89 ∷ []
unfolding every_byte bit xtimes sum_of_powers ◌•◌ inverse affine_bit affine sub_byte round
    last_round power_of_x rcon added_word next_word key_words expanded_by expanded_key round_key
    rounds finished encrypted cipher
encrypted_under_256_bits = refl
