-- The places of words that are drawn one after another.
use Rattle.std.proofs.Common.{◌≡◌, ◌+◌, ◌++◌, ◌∙◌, ℕ, List, ap, arith}
use Rattle.cred_seal.specs.Dice.{word, salt_at, vector_at}
use Rattle.load_maker.specs.Words.{drawn_at, four_words}
use Rattle.load_maker.specs.declared.words.Drawn.{Drawn}

-- two words behind two
pub second_half : (seed : List ℕ) (place : ℕ) (bytes : List ℕ)
    → bytes ≡ word seed (place + 2) ++ word seed (place + 2 + 1)
    → bytes ≡ word seed (place + 2) ++ word seed (place + 3)
second_half seed place bytes drawn =
    let next : place + 2 + 1 ≡ place + 3 = omega arith in
    drawn ∙ ap (λ at. word seed (place + 2) ++ word seed at) next

-- four words behind a salt are its vector
vector_behind : (seed : List ℕ) (place : ℕ) → four_words seed (place + 2) ≡ vector_at seed place
unfolding four_words
vector_behind seed place =
    let second : place + 2 + 1 ≡ place + 3 = omega arith in
    let third : place + 2 + 2 ≡ place + 4 = omega arith in
    let fourth : place + 2 + 3 ≡ place + 5 = omega arith in
    ap (λ at. word seed (place + 2) ++ (word seed at ++ (word seed (place + 2 + 2) ++ word seed (place + 2 + 3)))) second
    ∙ ap (λ at. word seed (place + 2) ++ (word seed (place + 3) ++ (word seed at ++ word seed (place + 2 + 3)))) third
    ∙ ap (λ at. word seed (place + 2) ++ (word seed (place + 3) ++ (word seed (place + 4) ++ word seed at))) fourth

abbrev pub drawn_of : (salt iv payload : List ℕ) → Drawn
drawn_of salt iv payload = record { salt = salt; iv = iv; payload = payload }

-- a salt, a vector and a payload that were drawn one after another
pub drawn_is : (seed : List ℕ) (place : ℕ) (salt iv payload : List ℕ)
    → salt ≡ salt_at seed place → iv ≡ four_words seed (place + 2) → payload ≡ four_words seed (place + 2 + 4)
    → drawn_of salt iv payload ≡ drawn_at seed place
unfolding drawn_at
drawn_is seed place salt iv payload salt_is iv_is payload_is =
    let behind : place + 2 + 4 ≡ place + 6 = omega arith in
    ap (λ bytes. drawn_of bytes iv payload) salt_is
    ∙ ap (λ bytes. drawn_of (salt_at seed place) bytes payload) (iv_is ∙ vector_behind seed place)
    ∙ ap (λ bytes. drawn_of (salt_at seed place) (vector_at seed place) bytes) (payload_is ∙ ap (four_words seed) behind)
