-- CIPHER, the encryption of a block (FIPS 197, 5.1).
use Rattle.std.specs.Prelude.{ℕ, zero, suc, ◌+◌, ◌-◌, List}
use Rattle.aes_block.specs.State.{Column, StateArray, state_of, block_of}
use Rattle.aes_block.specs.Rounds.{add_round_key, round, last_round}
use Rattle.aes_block.specs.KeyExpansion.{expanded_key, round_key, round_count}

-- n rounds, from the round that is given on
unfoldable pub rounds : List Column → ℕ → ℕ → StateArray → StateArray
rounds words first zero state = state
rounds words first (suc n) state = rounds words (first + 1) n (round state (round_key words first))

-- n rounds from the round that is given on, and the last round after them
unfoldable pub finished : List Column → ℕ → ℕ → StateArray → StateArray
finished words first n state = last_round (rounds words first n state) (round_key words (first + n))

-- the state that the rounds make of a state (5.1, algorithm 1)
unfoldable pub encrypted : List Column → ℕ → StateArray → StateArray
encrypted words count state = finished words 1 (count - 1) (add_round_key state (round_key words 0))

-- the encryption of a block of 16 bytes under a key of 16 or 32 bytes
unfoldable pub cipher : List ℕ → List ℕ → List ℕ
cipher key block = block_of (encrypted (expanded_key key) (round_count key) (state_of block))
