-- HMAC by its two hashes, and a key as its hash function's block, each byte of it combined with a pad.
use Rattle.std.proofs.Common.{◌≡◌, ℕ, zero, suc, ◌+◌, ◌-◌, ◌<◌, ◌≤◌, List, [], ◌∷◌, ◌++◌, length, take, set, get_or, bit_xor, refl, sym, ap, ◌∙◌, arith}
use Rattle.std.proofs.Math.ListN.{replicate}
use Rattle.std.proofs.Math.Seq.{take-append-add}
use Rattle.std.proofs.lemmas.List.{append_assoc, length-map, length-take-le, map-append, set_at, take-replicate, take_all, take_more}
use Rattle.munge_types.specs.declared.algorithms.MacKind.{MacKind}
use Rattle.munge_types.specs.declared.algorithms.MacKind.TheVariants.{Sha1, Sha256, Sha512}
use Rattle.hmac_core.specs.Hmac.{block_size, filled, hash, hmac, inner_pad, outer_pad, padded_by}

-- the outer hash of the inner one
pub hmac_is : (inner_kind outer_kind kind : MacKind) (key message digest mac : List ℕ) → inner_kind ≡ kind → outer_kind ≡ kind
    → digest ≡ hash inner_kind (inner_pad kind key ++ message) → mac ≡ hash outer_kind (outer_pad kind key ++ digest)
    → mac ≡ hmac kind key message
unfolding hmac
hmac_is inner_kind outer_kind kind key message digest mac inner_is outer_is inner outer =
    outer ∙ (ap (λ (k : MacKind). hash k (outer_pad kind key ++ digest)) outer_is
    ∙ ap (λ (d : List ℕ). hash kind (outer_pad kind key ++ d)) (inner ∙ ap (λ (k : MacKind). hash k (inner_pad kind key ++ message)) inner_is))

pub block_within : (kind : MacKind) → block_size kind ≤ 128
block_within Sha1 = omega arith
block_within Sha256 = omega arith
block_within Sha512 = omega arith

-- one byte more of the key
pub pads_one_more : (pad size : ℕ) (key block : List ℕ) (i : ℕ) → i < length key → i < size
    → block ≡ padded_by pad (take i key) ++ replicate (size - i) pad
    → set block i (bit_xor (get_or key i 0) pad) ≡ padded_by pad (take (i + 1) key) ++ replicate (size - (i + 1)) pad
pads_one_more pad size key block i within room so_far =
    let left : size - i ≡ suc (size - (i + 1)) = omega arith in
    let front : List ℕ = padded_by pad (take i key) in
    let rest : List ℕ = replicate (size - (i + 1)) pad in
    let long : length front ≡ i = length-map (take i key) (λ byte. bit_xor byte pad) ∙ length-take-le i key (omega arith) in
    let split : block ≡ front ++ pad ∷ rest = so_far ∙ ap (λ (n : ℕ). front ++ replicate n pad) left in
    let more : padded_by pad (take (i + 1) key) ≡ front ++ bit_xor (get_or key i 0) pad ∷ [] =
    ap (padded_by pad) (take_more key i 0 within) ∙ map-append (λ byte. bit_xor byte pad) (take i key) (get_or key i 0 ∷ []) in
    ap (λ (l : List ℕ). set l i (bit_xor (get_or key i 0) pad)) split
    ∙ (set_at front pad rest (bit_xor (get_or key i 0) pad) i long
    ∙ sym (ap (λ (l : List ℕ). l ++ rest) more ∙ append_assoc front (bit_xor (get_or key i 0) pad ∷ []) rest))

-- the pad makes zeros to itself
pads_zeros : (pad n : ℕ) → padded_by pad (replicate n 0) ≡ replicate n pad
pads_zeros pad zero = refl
pads_zeros pad (suc n) = ap (λ (l : List ℕ). pad ∷ l) (pads_zeros pad n)

-- the whole key, cut to the block
pub pads_all : (pad size most : ℕ) (key block : List ℕ) (i : ℕ) → i ≡ length key → length key ≤ size → size ≤ most
    → block ≡ padded_by pad (take i key) ++ replicate (most - i) pad
    → take size block ≡ padded_by pad (filled size key)
pads_all pad size most key block i end within room so_far =
    let f : ℕ → ℕ = λ byte. bit_xor byte pad in
    let front : List ℕ = padded_by pad key in
    let long : length front ≡ length key = length-map key f in
    let all : block ≡ front ++ replicate (most - length key) pad =
    so_far ∙ rw (end, take_all (length key) key (omega arith)) refl in
    let cut : size ≡ length front + (size - length key) = omega (arith, long) in
    let fill : take (size - length key) (replicate (most - length key) pad) ≡ replicate (size - length key) pad =
    take-replicate (size - length key) (most - length key) pad (omega arith) in
    ap (λ (l : List ℕ). take size l) all
    ∙ (ap (λ (n : ℕ). take n (front ++ replicate (most - length key) pad)) cut
    ∙ (take-append-add front (replicate (most - length key) pad) (size - length key)
    ∙ (ap (λ (l : List ℕ). front ++ l) (fill ∙ sym (pads_zeros pad (size - length key)))
    ∙ sym (map-append f key (replicate (size - length key) 0)))))
