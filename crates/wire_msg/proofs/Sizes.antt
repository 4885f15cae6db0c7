-- The first bytes of a length, and the least and the most that begin so.
use Rattle.std.proofs.Common.{◌≡◌, ℕ, ◌/◌, ◌%◌, ◌≤◌, ◌<◌, ◌^◌, List, [], ◌∷◌, ◌++◌, length, drop, refl, sym, ◌∙◌, arith}
use Rattle.std.specs.Int.{w32, from_be_bytes}
use Rattle.std.proofs.lemmas.List.{append-nil}
use Rattle.munge_types.specs.BigEndian.{be32}
use Rattle.munge_types.specs.Bytes.{IsBytes}
use Rattle.wire_msg.specs.Head.{filled}

pub record Between (least most size : ℕ) : Type 0 where
  pub not_below : least ≤ size
  pub not_above : size ≤ most

-- a length that begins so is between the two
pub between : (bytes more rest : List ℕ) (size : ℕ) → length bytes ≤ 4 → size < 2 ^ 32 → bytes ++ more ≡ be32 size ++ rest
    → Between (from_be_bytes w32 (filled 0 bytes)) (from_be_bytes w32 (filled 255 bytes)) size
between [] more rest size short fits same = record { not_below = omega arith; not_above = omega arith }
between (a ∷ []) more rest size short fits same =
    let a_is : a ≡ size / 16777216 % 256 = cc same in
    record { not_below = omega arith; not_above = omega arith }
between (a ∷ b ∷ []) more rest size short fits same =
    let a_is : a ≡ size / 16777216 % 256 = cc same in
    let b_is : b ≡ size / 65536 % 256 = cc same in
    record { not_below = omega arith; not_above = omega arith }
between (a ∷ b ∷ c ∷ []) more rest size short fits same =
    let a_is : a ≡ size / 16777216 % 256 = cc same in
    let b_is : b ≡ size / 65536 % 256 = cc same in
    let c_is : c ≡ size / 256 % 256 = cc same in
    record { not_below = omega arith; not_above = omega arith }
between (a ∷ b ∷ c ∷ d ∷ []) more rest size short fits same =
    let a_is : a ≡ size / 16777216 % 256 = cc same in
    let b_is : b ≡ size / 65536 % 256 = cc same in
    let c_is : c ≡ size / 256 % 256 = cc same in
    let d_is : d ≡ size % 256 = cc same in
    record { not_below = omega arith; not_above = omega arith }
between (a ∷ b ∷ c ∷ d ∷ e ∷ bytes) more rest size short fits same = absurd (omega arith)

-- a length between the two begins so
pub begins_so : (bytes : List ℕ) (size : ℕ) → IsBytes bytes → length bytes ≤ 4 → from_be_bytes w32 (filled 0 bytes) ≤ size
    → size ≤ from_be_bytes w32 (filled 255 bytes) → bytes ++ drop (length bytes) (be32 size) ≡ be32 size
begins_so [] size is_bytes short least most = refl
begins_so (a ∷ []) size is_bytes short least most =
    let a_fits = is_bytes 0 in
    let a_is : a ≡ size / 16777216 % 256 = omega arith in
    rw a_is refl
begins_so (a ∷ b ∷ []) size is_bytes short least most =
    let a_fits = is_bytes 0 in
    let b_fits = is_bytes 1 in
    let a_is : a ≡ size / 16777216 % 256 = omega arith in
    let b_is : b ≡ size / 65536 % 256 = omega arith in
    rw (a_is, b_is) refl
begins_so (a ∷ b ∷ c ∷ []) size is_bytes short least most =
    let a_fits = is_bytes 0 in
    let b_fits = is_bytes 1 in
    let c_fits = is_bytes 2 in
    let a_is : a ≡ size / 16777216 % 256 = omega arith in
    let b_is : b ≡ size / 65536 % 256 = omega arith in
    let c_is : c ≡ size / 256 % 256 = omega arith in
    rw (a_is, b_is, c_is) refl
begins_so (a ∷ b ∷ c ∷ d ∷ []) size is_bytes short least most =
    let a_fits = is_bytes 0 in
    let b_fits = is_bytes 1 in
    let c_fits = is_bytes 2 in
    let d_fits = is_bytes 3 in
    let a_is : a ≡ size / 16777216 % 256 = omega arith in
    let b_is : b ≡ size / 65536 % 256 = omega arith in
    let c_is : c ≡ size / 256 % 256 = omega arith in
    let d_is : d ≡ size % 256 = omega arith in
    rw (a_is, b_is, c_is, d_is) refl
begins_so (a ∷ b ∷ c ∷ d ∷ e ∷ bytes) size is_bytes short least most = absurd (omega arith)

-- four bytes are those of the one length between the two
pub exactly : (bytes : List ℕ) (size : ℕ) → IsBytes bytes → length bytes ≡ 4 → from_be_bytes w32 (filled 0 bytes) ≤ size
    → size ≤ from_be_bytes w32 (filled 255 bytes) → bytes ≡ be32 size
exactly bytes size is_bytes four least most =
    let whole : bytes ++ drop 4 (be32 size) ≡ be32 size = rw four at (begins_so bytes size is_bytes (omega (arith, four)) least most) in
    sym (append-nil bytes) ∙ whole
