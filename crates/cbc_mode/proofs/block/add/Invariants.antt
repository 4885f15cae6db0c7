use Rattle.std.proofs.Common.{◌≡◌, ℕ, ◌<◌, ◌≤◌, length, get_or, bit_xor}
use Rattle.cbc_mode.proofs.block.add.Given as goal

abbrev pub invariant-loop-i : goal.invariant-loop-i
invariant-loop-i l = record {
  long : length l.sum ≡ 16;
  added : (k : ℕ) → k < l.i → get_or l.sum k 0 ≡ bit_xor (get_or l.initial.sum k 0) (get_or l.block k 0);
  left : (k : ℕ) → l.i ≤ k → get_or l.sum k 0 ≡ get_or l.initial.sum k 0;
}
