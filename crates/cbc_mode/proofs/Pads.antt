-- Padding undone.
use Rattle.std.proofs.Common.{◌≡◌, ℕ, ◌+◌, ◌-◌, ◌%◌, ◌<◌, ◌≤◌, List, ◌++◌, length, take, drop, replicate, get_or, All, refl, sym, ap, ap₂, ◌∙◌, arith}
use Rattle.std.proofs.lemmas.List.{length-append, length-drop, length-take-le, length-replicate, get_or-append_right, get_or-drop, get_or-replicate, ext_get_or, take_at, take-append-drop}
use Rattle.std.proofs.lemmas.List.Elements.{All-append, All-replicate}
use Rattle.cbc_mode.specs.Padding.{pad_size, padded}
use Rattle.cbc_mode.specs.Cbc.{IsBlocks}

abbrev IsByte : ℕ → Type 0
IsByte b = b < 256

pub length-padded : (bytes : List ℕ) → length (padded bytes) ≡ length bytes + pad_size (length bytes)
unfolding padded
length-padded bytes =
    length-append bytes (replicate (pad_size (length bytes)) (pad_size (length bytes)))
    ∙ ap (λ (n : ℕ). length bytes + n) (length-replicate (pad_size (length bytes)) (pad_size (length bytes)))

pub whole-padded : (bytes : List ℕ) → length (padded bytes) % 16 ≡ 0
whole-padded bytes = omega (arith, length-padded bytes)

-- each byte of the padding
pub padded_at : (bytes : List ℕ) (k : ℕ) → length bytes ≤ k → k < length bytes + pad_size (length bytes) → get_or (padded bytes) k 0 ≡ pad_size (length bytes)
unfolding padded
padded_at bytes k from to =
    get_or-append_right bytes (replicate (pad_size (length bytes)) (pad_size (length bytes))) (length bytes) k 0 refl from
    ∙ get_or-replicate (pad_size (length bytes)) (k - length bytes) (pad_size (length bytes)) 0 (omega arith)

pub take-padded : (bytes : List ℕ) → take (length bytes) (padded bytes) ≡ bytes
unfolding padded
take-padded bytes = take_at bytes (replicate (pad_size (length bytes)) (pad_size (length bytes))) (length bytes) refl

-- the last byte of the padding is the number of its bytes
last-padded : (bytes buf : List ℕ) → padded bytes ≡ buf → get_or buf (length buf - 1) 0 ≡ pad_size (length bytes)
last-padded bytes buf same =
    let long : length buf ≡ length bytes + pad_size (length bytes) = sym (ap length same) ∙ length-padded bytes in
    ap (λ xs. get_or xs (length buf - 1) 0) (sym same) ∙ padded_at bytes (length buf - 1) (omega arith) (omega arith)

pub padded_one_to_one : (first second : List ℕ) → padded first ≡ padded second → first ≡ second
padded_one_to_one first second same =
    let pads : pad_size (length first) ≡ pad_size (length second) = sym (last-padded first (padded second) same) ∙ last-padded second (padded second) refl in
    let sums : length first + pad_size (length first) ≡ length second + pad_size (length second) = sym (length-padded first) ∙ ap length same ∙ length-padded second in
    let longs : length first ≡ length second = omega arith in
    sym (take-padded first) ∙ ap₂ take longs same ∙ take-padded second

pub IsBlocks-padded : (bytes : List ℕ) → All IsByte bytes → IsBlocks (padded bytes)
unfolding padded
IsBlocks-padded bytes all = record {
  whole = whole-padded bytes;
  bytes = All-append IsByte bytes (replicate (pad_size (length bytes)) (pad_size (length bytes))) all (All-replicate IsByte (pad_size (length bytes)) (pad_size (length bytes)) (omega arith));
}

-- ---- what is seen of a padded buffer, and what makes one

module _ (bytes buf : List ℕ) (same : padded bytes ≡ buf) where
  long : length buf ≡ length bytes + pad_size (length bytes)
  long = sym (ap length same) ∙ length-padded bytes

  -- it is not empty
  pub filled : length buf ≡ 0 → ⊥
  filled none = absurd (omega (arith, long))

  module _ (size : ℕ) (last : size ≡ get_or buf (length buf - 1) 0) where
    size_is : size ≡ pad_size (length bytes)
    size_is = last ∙ last-padded bytes buf same

    -- its last byte is the size of its padding
    pub within : size ≤ length buf
    within = omega (arith, long, size_is)

    front_is : length buf - size ≡ length bytes
    front_is = omega (arith, long, size_is)

    pub sized : size ≡ pad_size (length buf - size)
    sized = size_is ∙ ap pad_size (sym front_is)

    -- and each byte of its padding is the last one
    pub each_is : (k : ℕ) → k < length (drop (length buf - size) buf) → get_or (drop (length buf - size) buf) k 0 ≡ size
    each_is k below =
        let inside : k < length buf - (length buf - size) = omega (arith, length-drop (length buf - size) buf) in
        get_or-drop (length buf - size) buf k 0
        ∙ ap (λ xs. get_or xs (length buf - size + k) 0) (sym same)
        ∙ padded_at bytes (length buf - size + k) (omega (arith, front_is)) (omega (arith, long, size_is))
        ∙ sym size_is

pub front_padded : (buf : List ℕ) (front size : ℕ) → front ≤ length buf → size ≤ length buf → front ≡ length buf - size → size ≡ pad_size front
    → ((k : ℕ) → k < length (drop front buf) → get_or (drop front buf) k 0 ≡ size) → padded (take front buf) ≡ buf
unfolding padded
front_padded buf front size within size_within front_is sized each =
    let long : length (take front buf) ≡ front = length-take-le front buf within in
    let behind : length (drop front buf) ≡ size = length-drop front buf ∙ omega arith in
    let pad : replicate size size ≡ drop front buf =
    ext_get_or 0 (replicate size size) (drop front buf) (length-replicate size size ∙ sym behind)
    (λ k below.
    let inside : k < size = omega (arith, length-replicate size size) in
    get_or-replicate size k size 0 inside ∙ sym (each k (omega arith))) in
    ap (λ (n : ℕ). take front buf ++ replicate (pad_size n) (pad_size n)) long
    ∙ ap (λ (n : ℕ). take front buf ++ replicate n n) (sym sized)
    ∙ ap (λ xs. take front buf ++ xs) pad
    ∙ take-append-drop front buf
