use Rattle.std.proofs.Common.{◌≡◌, ◌*◌, ◌-◌, map, take}
use Rattle.std.specs.List.{range_with_len}
use Rattle.aes_block.specs.State.{column_at}
use Rattle.aes_block.specs.KeyExpansion.{key_words, expanded_by}
use Rattle.aes_block.proofs.key_expansion.expand.Given as goal

-- the words so far are those of the key
abbrev pub invariant-loop-i : goal.invariant-loop-i
invariant-loop-i l = take l.i l.words ≡ map (λ k. column_at l.key (4 * k)) (range_with_len 0 l.i)

-- the words so far follow from those of the key
abbrev pub invariant-loop-i-2 : goal.invariant-loop-i-2
invariant-loop-i-2 l = take l.i l.words ≡ expanded_by l.key_words (l.i - l.key_words) (key_words l.key)
