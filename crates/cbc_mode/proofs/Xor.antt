-- The sum of two blocks.
use Rattle.std.proofs.Common.{◌≡◌, ℕ, ◌<◌, List, length, min, get_or, sym, ap, ◌∙◌, arith, bit_xor}
use Rattle.std.proofs.lemmas.List.{length-map, get_or-map, ext_get_or}
use Rattle.std.proofs.lemmas.List.Elements.{All-get_or, All-from_get_or}
use Rattle.std.proofs.lemmas.Nat.{xor_comm, xor_of_8}
use Rattle.std.proofs.lemmas.Slice.Zip.{length-zip, get_or-zip}
use Rattle.std.specs.Int.Bits.{xor_assoc, xor_self}
use Rattle.std.specs.List.{zip}
use Rattle.aes_block.specs.State.{IsBlock}
use Rattle.cbc_mode.specs.Cbc.{xor}

abbrev IsByte : ℕ → Type 0
IsByte b = b < 256

length-xor : (a b : List ℕ) → length (xor a b) ≡ min (length a) (length b)
unfolding xor
length-xor a b = length-map (zip a b) (λ bytes. bit_xor bytes.0 bytes.1) ∙ length-zip a b

xor_at : (a b : List ℕ) (k : ℕ) → k < length a → k < length b → get_or (xor a b) k 0 ≡ bit_xor (get_or a k 0) (get_or b k 0)
unfolding xor
xor_at a b k in_a in_b =
    let within : k < length (zip a b) = omega (arith, length-zip a b) in
    get_or-map (λ bytes. bit_xor bytes.0 bytes.1) (zip a b) k (0, 0) 0 within
    ∙ ap (λ (bytes : ℕ × ℕ). bit_xor bytes.0 bytes.1) (get_or-zip a b k (0, 0) in_a in_b)

module _ (a b : List ℕ) (sixteen : length a ≡ 16) (sixteen_too : length b ≡ 16) where
  pub length-sum : length (xor a b) ≡ 16
  length-sum = omega (arith, length-xor a b)

  pub sum_at : (k : ℕ) → k < 16 → get_or (xor a b) k 0 ≡ bit_xor (get_or a k 0) (get_or b k 0)
  sum_at k below = xor_at a b k (omega arith) (omega arith)

  -- a list of these sums is the sum
  pub xor_of : (xs : List ℕ) → length xs ≡ 16 → ((k : ℕ) → k < 16 → get_or xs k 0 ≡ bit_xor (get_or a k 0) (get_or b k 0)) → xs ≡ xor a b
  xor_of xs long each = ext_get_or 0 xs (xor a b) (long ∙ sym length-sum) (λ k within. each k (omega arith) ∙ sym (sum_at k (omega arith)))

xor_cancel : (a b : ℕ) → bit_xor (bit_xor a b) b ≡ a
xor_cancel a b = xor_assoc a b b ∙ ap (λ (x : ℕ). bit_xor a x) (xor_self b) ∙ xor_comm a 0

-- what is added twice is gone
pub xor_undone : (a b : List ℕ) → length a ≡ 16 → length b ≡ 16 → xor (xor a b) b ≡ a
xor_undone a b la lb =
    let long : length (xor a b) ≡ 16 = length-sum a b la lb in
    sym (xor_of (xor a b) b long lb a la
    (λ k below. sym (ap (λ (x : ℕ). bit_xor x (get_or b k 0)) (sum_at a b la lb k below) ∙ xor_cancel (get_or a k 0) (get_or b k 0))))

pub IsBlock-xor : (a b : List ℕ) → IsBlock a → IsBlock b → IsBlock (xor a b)
IsBlock-xor a b ha hb =
    let long : length (xor a b) ≡ 16 = length-sum a b ha.sixteen hb.sixteen in
    record {
      sixteen = long;
      bytes = All-from_get_or IsByte (xor a b) 0 (λ k within.
          let in_a : k < length a = omega (arith, ha.sixteen) in
          let in_b : k < length b = omega (arith, hb.sixteen) in
          rw (sum_at a b ha.sixteen hb.sixteen k (omega arith))
          (xor_of_8 (get_or a k 0) (get_or b k 0) (All-get_or IsByte a k 0 in_a ha.bytes) (All-get_or IsByte b k 0 in_b hb.bytes)));
    }
