use Rattle.std.proofs.Common.{◌≡◌, map, take}
use Rattle.aes_block.specs.Rounds.{mix_column}
use Rattle.aes_block.proofs.inverse_cipher.unmix.Given as goal

-- the words so far are undone
abbrev pub invariant-loop-i : goal.invariant-loop-i
invariant-loop-i l = map mix_column (take l.i l.unmixed) ≡ take l.i l.words
