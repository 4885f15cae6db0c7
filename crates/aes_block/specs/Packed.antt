-- Four bytes as one number of 32 bits, the byte of the first row highest.
use Rattle.std.specs.Prelude.{◌≡◌, ℕ, ◌+◌, ◌*◌, ◌/◌, ◌%◌, ◌^◌}
use Rattle.std.proofs.Common.{sym, ap, ◌∙◌}
use Rattle.std.proofs.lemmas.Nat.{shr-shr, shr_split}
use Rattle.aes_block.specs.State.{Column}

-- the bytes of a number, from the highest on
abbrev pub column_of : ℕ → Column
column_of n = record {
  row0 = n / 2 ^ 24;
  row1 = n / 2 ^ 16 % 2 ^ 8;
  row2 = n / 2 ^ 8 % 2 ^ 8;
  row3 = n % 2 ^ 8;
}

-- the number of four bytes
abbrev pub number_of : Column → ℕ
number_of c = ((c.row0 * 2 ^ 8 + c.row1) * 2 ^ 8 + c.row2) * 2 ^ 8 + c.row3

-- the bytes of a number give it back
pub number_of-column_of : (n : ℕ) → number_of (column_of n) ≡ n
number_of-column_of n =
    let next = λ (x : ℕ). x * 2 ^ 8 + n / 2 ^ 8 % 2 ^ 8 in
    let lowest = λ (x : ℕ). x * 2 ^ 8 + n % 2 ^ 8 in
    ap (λ (x : ℕ). lowest (next (x * 2 ^ 8 + n / 2 ^ 16 % 2 ^ 8))) (sym (shr-shr n 16 8))
    ∙ ap (λ (x : ℕ). lowest (next x)) (shr_split (n / 2 ^ 16) 8)
    ∙ ap (λ (x : ℕ). lowest (next x)) (sym (shr-shr n 8 8))
    ∙ ap lowest (shr_split (n / 2 ^ 8) 8)
    ∙ shr_split n 8
