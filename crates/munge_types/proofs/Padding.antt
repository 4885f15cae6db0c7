-- A MAC's buffer that was filled from its front.
use Rattle.std.proofs.Common.{◌≡◌, ℕ, ◌-◌, ◌≤◌, List, ◌++◌, length, arith, length-append, ap}
use Rattle.std.proofs.Math.ListN.{replicate}
use Rattle.std.proofs.Math.Seq.{take-append_seam}
use Rattle.std.proofs.lemmas.List.{length-replicate}
use Rattle.munge_types.specs.MacBytes.{IsFilled}

-- bytes, and zeros behind them up to 64, are the buffer of these bytes
pub IsFilled-append : (bytes zeros : List ℕ) → length bytes ≤ 64 → zeros ≡ replicate (64 - length bytes) 0
    → IsFilled (bytes ++ zeros) (length bytes)
IsFilled-append bytes zeros within are_zeros = record {
  size = omega (arith, length-append bytes zeros, ap length are_zeros, length-replicate {A = ℕ} (64 - length bytes) 0);
  within = within;
  zeros = rw (take-append_seam bytes zeros) (ap (λ rest. bytes ++ rest) are_zeros);
}
