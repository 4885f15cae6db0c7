-- Worked draws, which the checker computes: the stream of a seed of zeros, which is RFC 8439's of
-- a key of zeros and a nonce of zeros (appendix A.1, the first and the second vector). There each
-- word has its low byte first, and here its high byte.
use Rattle.std.specs.Prelude.{◌≡◌, ℕ, ◌-◌, ◌^◌, List, [], ◌∷◌, replicate, refl}
use Rattle.rand_core.specs.Steps.{u32_at}
use Rattle.rand_chacha.specs.Block.{quarter_round, column_round, diagonal_round, double_rounds, block_word}
use Rattle.cred_seal.specs.Dice.{salt_at, vector_at, next_place}

abbrev pub zero_seed : List ℕ
zero_seed = replicate 32 0

-- the salt of the first draw: 76b8e0ad a0f13d90 there
pub first_salt : salt_at zero_seed 0 ≡
    0xad ∷ 0xe0 ∷ 0xb8 ∷ 0x76 ∷ 0x90 ∷ 0x3d ∷ 0xf1 ∷ 0xa0 ∷ []
unfolding u32_at quarter_round column_round diagonal_round double_rounds block_word
first_salt = refl

-- its initial vector: 405d6ae5 5386bd28 bdd219b8 a08ded1a there
pub first_vector : vector_at zero_seed 0 ≡
    0xe5 ∷ 0x6a ∷ 0x5d ∷ 0x40 ∷ 0x28 ∷ 0xbd ∷ 0x86 ∷ 0x53
    ∷ 0xb8 ∷ 0x19 ∷ 0xd2 ∷ 0xbd ∷ 0x1a ∷ 0xed ∷ 0x8d ∷ 0xa0 ∷ []
unfolding u32_at quarter_round column_round diagonal_round double_rounds block_word
first_vector = refl

-- the vector of the third draw, at place 12, which ends in the second block: c387b669 b2ee6586
-- and 9f07e7be 5551387a there
pub vector_over_two_blocks : vector_at zero_seed 12 ≡
    0x69 ∷ 0xb6 ∷ 0x87 ∷ 0xc3 ∷ 0x86 ∷ 0x65 ∷ 0xee ∷ 0xb2
    ∷ 0xbe ∷ 0xe7 ∷ 0x07 ∷ 0x9f ∷ 0x7a ∷ 0x38 ∷ 0x51 ∷ 0x55 ∷ []
unfolding u32_at quarter_round column_round diagonal_round double_rounds block_word
vector_over_two_blocks = refl

-- where the stream ends, a draw goes on from its start
pub place_at_the_end : next_place (2 ^ 68 - 2) ≡ 4
place_at_the_end = refl
