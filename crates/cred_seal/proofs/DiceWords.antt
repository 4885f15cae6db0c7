-- The words of a vector, at places that are not wrapped.
use Rattle.std.proofs.Common.{◌≡◌, ◌+◌, ◌%◌, ◌^◌, ◌++◌, ◌∙◌, ℕ, List, ap, arith}
use Rattle.munge_types.specs.BigEndian.{be32}
use Rattle.rand_chacha.specs.ChaCha.{word_at, key_of}
use Rattle.cred_seal.specs.Dice.{word}

-- the same word stands at places that are equal modulo 2 ^ 68
same_word : (seed : List ℕ) (place other : ℕ) → place % 2 ^ 68 ≡ other % 2 ^ 68 → word seed place ≡ word seed other
same_word seed place other same = ap (λ at. be32 (word_at 10 (key_of seed) 0 at)) same

-- and so do the same two words
same_words : (seed : List ℕ) (place next other behind : ℕ)
    → place % 2 ^ 68 ≡ other % 2 ^ 68 → next % 2 ^ 68 ≡ behind % 2 ^ 68
    → word seed place ++ word seed next ≡ word seed other ++ word seed behind
same_words seed place next other behind same same_next =
    ap (λ bytes. bytes ++ word seed next) (same_word seed place other same)
    ∙ ap (λ bytes. word seed other ++ bytes) (same_word seed next behind same_next)

-- what is drawn behind the salt
pub first_half : (seed : List ℕ) (place : ℕ) (bytes : List ℕ)
    → bytes ≡ word seed ((place + 2) % 2 ^ 68) ++ word seed ((place + 2) % 2 ^ 68 + 1)
    → bytes ≡ word seed (place + 2) ++ word seed (place + 3)
first_half seed place bytes drawn =
    drawn ∙ same_words seed _ _ (place + 2) (place + 3) (omega arith) (omega arith)

-- and what is drawn behind that
pub second_half : (seed : List ℕ) (place : ℕ) (bytes : List ℕ)
    → bytes ≡ word seed (((place + 2) % 2 ^ 68 + 2) % 2 ^ 68) ++ word seed (((place + 2) % 2 ^ 68 + 2) % 2 ^ 68 + 1)
    → bytes ≡ word seed (place + 4) ++ word seed (place + 5)
second_half seed place bytes drawn =
    drawn ∙ same_words seed _ _ (place + 4) (place + 5) (omega arith) (omega arith)
