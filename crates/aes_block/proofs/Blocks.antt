-- Blocks and states, keys and their words.
use Rattle.std.proofs.Common.{◌≡◌, ℕ, zero, suc, ◌+◌, ◌*◌, List, [], ◌∷◌, length, map, take, get_or, refl, sym, ap, ◌∙◌, arith}
use Rattle.std.proofs.lemmas.List.{take_all, take-append-le, length_push}
use Rattle.std.proofs.lemmas.List.FromFn.{fill_by_all, length-map-range_with_len}
use Rattle.std.specs.List.{range_with_len, flat_map}
use Rattle.aes_block.specs.State.{Column, state_of, block_of, column_at, column_bytes}
use Rattle.aes_block.specs.KeyExpansion.{next_word, key_words, expanded_by, expanded_key}
use Rattle.aes_block.specs.Schedule.{key_bytes}

-- a list of n numbers is what it has at each index
by_index : (xs : List ℕ) (n : ℕ) → length xs ≡ n → map (λ k. get_or xs k 0) (range_with_len 0 n) ≡ xs
by_index xs n h = sym (fill_by_all (λ k. get_or xs k 0) xs n 0 h (λ k lt. refl))

pub block_of-state_of : (block : List ℕ) → length block ≡ 16 → block_of (state_of block) ≡ block
block_of-state_of block h = by_index block 16 h

length-expanded_by : (nk n : ℕ) (words : List Column) → length (expanded_by nk n words) ≡ length words + n
unfolding expanded_by
length-expanded_by nk zero words = omega arith
length-expanded_by nk (suc n) words =
    omega (arith, length_push (expanded_by nk n words) (next_word nk (expanded_by nk n words)), length-expanded_by nk n words)

-- the words of the key come first
take-expanded_by : (nk n k : ℕ) (words : List Column) → length words ≡ k → take k (expanded_by nk n words) ≡ words
unfolding expanded_by
take-expanded_by nk zero k words h = take_all k words (omega arith)
take-expanded_by nk (suc n) k words h =
    take-append-le k (expanded_by nk n words) (next_word nk (expanded_by nk n words) ∷ []) (omega (arith, length-expanded_by nk n words))
    ∙ take-expanded_by nk n k words h

length-key_words : (key : List ℕ) (nk : ℕ) → length key ≡ 4 * nk → length (key_words key) ≡ nk
unfolding key_words
length-key_words key nk h = length-map-range_with_len (λ i. column_at key (4 * i)) 0 _ ∙ omega arith

key_bytes-first : (key : List ℕ) (nk : ℕ) → length key ≡ 4 * nk → key_bytes nk (expanded_key key) ≡ flat_map column_bytes (key_words key)
unfolding key_bytes expanded_key
key_bytes-first key nk h = ap (flat_map column_bytes) (take-expanded_by _ _ nk (key_words key) (length-key_words key nk h))

bytes_of_words_4 : (key : List ℕ) → length key ≡ 16 → flat_map column_bytes (key_words key) ≡ key
unfolding key_words
bytes_of_words_4 key h = rw h (by_index key 16 h)

bytes_of_words_8 : (key : List ℕ) → length key ≡ 32 → flat_map column_bytes (key_words key) ≡ key
unfolding key_words
bytes_of_words_8 key h = rw h (by_index key 32 h)

pub key_bytes-expanded_key_4 : (key : List ℕ) → length key ≡ 16 → key_bytes 4 (expanded_key key) ≡ key
key_bytes-expanded_key_4 key h = key_bytes-first key 4 h ∙ bytes_of_words_4 key h

pub key_bytes-expanded_key_8 : (key : List ℕ) → length key ≡ 32 → key_bytes 8 (expanded_key key) ≡ key
key_bytes-expanded_key_8 key h = key_bytes-first key 8 h ∙ bytes_of_words_8 key h
