-- What the tables of the S-box and of its inverse hold, by computing each entry.
use Rattle.std.proofs.Common.{◌≡◌, ℕ, ◌/◌, ◌<◌, map, get_or, refl, sym, ap, ◌∙◌, arith}
use Rattle.std.proofs.lemmas.List.FromFn.{get_or-map-range_with_len}
use Rattle.aes_block.specs.Field.{every_byte, bit, xtimes, sum_of_powers, ◌•◌, inverse}
use Rattle.aes_block.specs.SubBytes.{affine_bit, affine, sub_byte}
use Rattle.aes_block.specs.declared.s_box.TheConstants.{S_BOX, INVERSE_S_BOX}

-- two functions that give one list over every byte give one value at each
pub at_byte : {A : Type 0} (f g : ℕ → A) → map f every_byte ≡ map g every_byte → (b : ℕ) → b < 256 → f b ≡ g b
unfolding every_byte
at_byte f g same b h =
    sym (get_or-map-range_with_len f 0 256 b b (f b) h (omega arith))
    ∙ ap (λ t. get_or t b (f b)) same
    ∙ get_or-map-range_with_len g 0 256 b b (f b) h (omega arith)

s_box_entries : map (λ b. get_or S_BOX b 0) every_byte ≡ map sub_byte every_byte
unfolding every_byte bit xtimes sum_of_powers ◌•◌ inverse affine_bit affine sub_byte
s_box_entries = refl

pub s_box_at : (b : ℕ) → b < 256 → get_or S_BOX b 0 ≡ sub_byte b
s_box_at = at_byte (λ b. get_or S_BOX b 0) sub_byte s_box_entries

undone_entries : map (λ b. sub_byte (get_or INVERSE_S_BOX b 0)) every_byte ≡ map (λ b. b) every_byte
unfolding every_byte bit xtimes sum_of_powers ◌•◌ inverse affine_bit affine sub_byte
undone_entries = refl

pub sub_byte-inverse_s_box : (b : ℕ) → b < 256 → sub_byte (get_or INVERSE_S_BOX b 0) ≡ b
sub_byte-inverse_s_box = at_byte (λ b. sub_byte (get_or INVERSE_S_BOX b 0)) (λ b. b) undone_entries

redone_entries : map (λ b. get_or INVERSE_S_BOX (get_or S_BOX b 0) 0) every_byte ≡ map (λ b. b) every_byte
unfolding every_byte
redone_entries = refl

pub inverse_s_box-sub_byte : (b : ℕ) → b < 256 → get_or INVERSE_S_BOX (sub_byte b) 0 ≡ b
inverse_s_box-sub_byte b h =
    ap (λ s. get_or INVERSE_S_BOX s 0) (sym (s_box_at b h))
    ∙ at_byte (λ b. get_or INVERSE_S_BOX (get_or S_BOX b 0) 0) (λ b. b) redone_entries b h

byte_entries : map (λ b. get_or S_BOX b 0 / 256) every_byte ≡ map (λ b. 0) every_byte
unfolding every_byte
byte_entries = refl

-- the S-box gives a byte
pub sub_byte_below : (b : ℕ) → b < 256 → sub_byte b < 256
sub_byte_below b h =
    let e : sub_byte b / 256 ≡ 0 = ap (λ s. s / 256) (sym (s_box_at b h)) ∙ at_byte (λ b. get_or S_BOX b 0 / 256) (λ b. 0) byte_entries b h in
    omega arith

inverse_byte_entries : map (λ b. get_or INVERSE_S_BOX b 0 / 256) every_byte ≡ map (λ b. 0) every_byte
unfolding every_byte
inverse_byte_entries = refl

-- and so does its inverse
pub inverse_s_box_below : (b : ℕ) → b < 256 → get_or INVERSE_S_BOX b 0 < 256
inverse_s_box_below b h =
    let e : get_or INVERSE_S_BOX b 0 / 256 ≡ 0 = at_byte (λ b. get_or INVERSE_S_BOX b 0 / 256) (λ b. 0) inverse_byte_entries b h in
    omega arith
