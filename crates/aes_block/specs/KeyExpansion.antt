-- KEYEXPANSION, which makes the words of the round keys (FIPS 197, 5.2).
use Rattle.std.specs.Prelude.{ℕ, zero, suc, ◌+◌, ◌-◌, ◌*◌, ◌/◌, ◌%◌, ◌==◌, ◌&&◌, nat_lt, if◌then◌else◌, List, [], ◌∷◌, ◌++◌, length, map, slice_index_or}
use Rattle.std.specs.List.{range_with_len}
use Rattle.aes_block.specs.Field.{xtimes}
use Rattle.aes_block.specs.State.{Column, StateArray, column_at, add_columns}
use Rattle.aes_block.specs.SubBytes.{sub_word}

-- the column of zeros
abbrev pub zeros : Column
zeros = record { row0 = 0; row1 = 0; row2 = 0; row3 = 0 }

-- word i
abbrev pub word_at : List Column → ℕ → Column
word_at words i = slice_index_or words i zeros

-- Nk, the number of words of a key (5, table 3)
abbrev pub key_length : List ℕ → ℕ
key_length key = length key / 4

-- Nr, the number of rounds (5, table 3)
abbrev pub round_count : List ℕ → ℕ
round_count key = key_length key + 6

-- ROTWORD (5.2)
abbrev pub rot_word : Column → Column
rot_word c = record { row0 = c.row1; row1 = c.row2; row2 = c.row3; row3 = c.row0 }

-- x^j in the field
unfoldable pub power_of_x : ℕ → ℕ
power_of_x zero = 1
power_of_x (suc j) = xtimes (power_of_x j)

-- Rcon[j], from j = 1 on (5.2)
unfoldable pub rcon : ℕ → Column
rcon j = record { row0 = power_of_x (j - 1); row1 = 0; row2 = 0; row3 = 0 }

-- what word i - Nk is added to, to give word i: temp, after its changes (5.2, algorithm 2)
unfoldable pub added_word : ℕ → ℕ → Column → Column
added_word nk i temp =
    if i % nk == 0
    then add_columns (sub_word (rot_word temp)) (rcon (i / nk))
    else (if nat_lt 6 nk && i % nk == 4 then sub_word temp else temp)

-- the word that follows the words so far
unfoldable pub next_word : ℕ → List Column → Column
next_word nk words =
    let i = length words in
    add_columns (word_at words (i - nk)) (added_word nk i (word_at words (i - 1)))

-- the words of the key
unfoldable pub key_words : List ℕ → List Column
key_words key = map (λ i. column_at key (4 * i)) (range_with_len 0 (key_length key))

-- n more words
unfoldable pub expanded_by : ℕ → ℕ → List Column → List Column
expanded_by nk zero words = words
expanded_by nk (suc n) words = expanded_by nk n words ++ next_word nk (expanded_by nk n words) ∷ []

-- w, the words of the round keys: four for each, and one round key more than there are rounds
unfoldable pub expanded_key : List ℕ → List Column
expanded_key key =
    expanded_by (key_length key) (4 * (round_count key + 1) - key_length key) (key_words key)

-- the round key of a round, four words (5.1.4)
unfoldable pub round_key : List Column → ℕ → StateArray
round_key words round = record {
  column0 = word_at words (4 * round);
  column1 = word_at words (4 * round + 1);
  column2 = word_at words (4 * round + 2);
  column3 = word_at words (4 * round + 3);
}
