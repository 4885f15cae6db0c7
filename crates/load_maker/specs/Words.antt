-- The words of a load: those of a ChaCha20 stream, in order.
use Rattle.std.specs.Prelude.{ℕ, ◌+◌, ◌*◌, List, ◌++◌, replicate}
use Rattle.munge_types.specs.BigEndian.{be64}
use Rattle.cred_seal.specs.Dice.{word, salt_at, vector_at}
use Rattle.load_maker.specs.declared.words.Drawn.{Drawn}

-- the seed of a load's number: its eight big-endian bytes, and 24 bytes of value 0
abbrev pub seed_of : (number : ℕ) → List ℕ
seed_of number = be64 number ++ replicate 24 0

-- the four words from a place on
unfoldable pub four_words : (seed : List ℕ) → (place : ℕ) → List ℕ
four_words seed place =
    word seed place ++ (word seed (place + 1)
    ++ (word seed (place + 2) ++ word seed (place + 3)))

-- the key: the first eight words
unfoldable pub key_of : (seed : List ℕ) → List ℕ
key_of seed = four_words seed 0 ++ four_words seed 4

-- what is drawn at a place for one credential: a salt of two words, an initial vector of four, and
-- a payload of four
unfoldable pub drawn_at : (seed : List ℕ) → (place : ℕ) → Drawn
drawn_at seed place =
    record {
      salt = salt_at seed place;
      iv = vector_at seed place;
      payload = four_words seed (place + 6);
    }

-- the place of credential i: behind the key, ten words for each before it
abbrev pub place_of : (i : ℕ) → ℕ
place_of i = 8 + 10 * i
