-- The words that salts and initial vectors are drawn from.
use Rattle.std.specs.Prelude.{◌≡◌, ℕ, ◌+◌, ◌<◌, ◌%◌, ◌^◌, List, ◌++◌}
use Rattle.munge_types.specs.BigEndian.{be32}
use Rattle.rand_chacha.specs.ChaCha.{word_at, key_of}

-- what contracts see of a `Dice`: a seed of 32 bytes, and the place of the next word, below 2 ^ 68
pub record DiceState : Type 0 where
  pub seed : List ℕ
  pub place : ℕ

-- the generator of this seed, on its stream 0, at a place of it
pub record IsGenerator (seed key : List ℕ) (stream place : ℕ) : Type 0 where
  pub key_is : key ≡ key_of seed
  pub stream_is : stream ≡ 0
  pub place_within : place < 2 ^ 68

-- The word at a place of the ChaCha20 stream 0 of the seed (RFC 8439, ten double rounds, with a
-- counter of 64 bits and a nonce of 64), as four big-endian bytes. The stream repeats after 2 ^ 68
-- words.
abbrev pub word : (seed : List ℕ) → (place : ℕ) → List ℕ
word seed place = be32 (word_at 10 (key_of seed) 0 (place % 2 ^ 68))

-- the salt that is drawn at a place: two words
abbrev pub salt_at : (seed : List ℕ) → (place : ℕ) → List ℕ
salt_at seed place = word seed place ++ word seed (place + 1)

-- the initial vector that is drawn with it: the four words behind
abbrev pub vector_at : (seed : List ℕ) → (place : ℕ) → List ℕ
vector_at seed place =
    word seed (place + 2) ++ (word seed (place + 3)
    ++ (word seed (place + 4) ++ word seed (place + 5)))

-- the place of the next draw
abbrev pub next_place : ℕ → ℕ
next_place place = (place + 6) % 2 ^ 68
