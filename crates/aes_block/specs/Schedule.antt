-- What a key keeps: the words of its round keys, and the words of which MIXCOLUMNS makes them.
use Rattle.std.specs.Prelude.{◌≡◌, ℕ, ◌*◌, ◌<◌, List, length, map, take, All}
use Rattle.std.specs.List.{flat_map}
use Rattle.aes_block.specs.State.{Column, column_bytes}
use Rattle.aes_block.specs.Rounds.{mix_column}
use Rattle.aes_block.specs.KeyExpansion.{expanded_key}

-- the bytes of the key, whose words, nk of them, are the first
unfoldable pub key_bytes : ℕ → List Column → List ℕ
key_bytes nk words = flat_map column_bytes (take nk words)

-- the words are those of a key of nk words, and undone they are the others
pub record IsSchedule (nk : ℕ) (words unmixed : List Column) : Type 0 where
  pub size : length (key_bytes nk words) ≡ 4 * nk
  pub bytes : All (λ b. b < 256) (key_bytes nk words)
  pub expanded : words ≡ expanded_key (key_bytes nk words)
  pub undone : map mix_column unmixed ≡ words
