-- Worked words, which the checker computes: the first of the load of 1. Their values are those of
-- `tools/vectors load/1` and of OpenSSL's key stream.
use Rattle.std.specs.Prelude.{◌≡◌, [], ◌∷◌, refl}
use Rattle.rand_core.specs.Steps.{u32_at}
use Rattle.rand_chacha.specs.Block.{quarter_round, column_round, diagonal_round, double_rounds, block_word}
use Rattle.load_maker.specs.Words.{seed_of, key_of, drawn_at, four_words, place_of}

pub key_of_one : key_of (seed_of 1) ≡
    0x50 ∷ 0xb0 ∷ 0xa5 ∷ 0x4e ∷ 0x6c ∷ 0xc2 ∷ 0x14 ∷ 0x59
    ∷ 0xc6 ∷ 0x06 ∷ 0xd6 ∷ 0x09 ∷ 0x46 ∷ 0xce ∷ 0x6e ∷ 0x2b
    ∷ 0x6c ∷ 0xa3 ∷ 0xd6 ∷ 0x0d ∷ 0xab ∷ 0x6e ∷ 0xfb ∷ 0xa4
    ∷ 0x90 ∷ 0x3e ∷ 0xa1 ∷ 0x43 ∷ 0x28 ∷ 0x82 ∷ 0x3c ∷ 0x4e ∷ []
unfolding u32_at quarter_round column_round diagonal_round double_rounds block_word four_words key_of
key_of_one = refl

-- the payload of its first credential, whose words stand in two blocks of the stream
pub payload_of_one : (drawn_at (seed_of 1) (place_of 0)).payload ≡
    0x11 ∷ 0x8b ∷ 0x0b ∷ 0x07 ∷ 0x96 ∷ 0x0e ∷ 0x2d ∷ 0x95
    ∷ 0x60 ∷ 0xb4 ∷ 0x0a ∷ 0x19 ∷ 0xc1 ∷ 0x37 ∷ 0x0e ∷ 0xdf ∷ []
unfolding u32_at quarter_round column_round diagonal_round double_rounds block_word four_words drawn_at
payload_of_one = refl
