use Rattle.std.proofs.Common.{◌-◌, ◌+◌, ◌<◌}
use Rattle.aes_block.proofs.RoundsLemmas.{LeadsTo}
use Rattle.aes_block.proofs.inverse_cipher.decrypt.Given as goal

-- what rounds are left lead from a state whose substitution this is to the state at the beginning
abbrev pub invariant-loop-number : goal.invariant-loop-number
invariant-loop-number l = (l.number < l.rounds) × LeadsTo l.words (l.number + 1) (l.rounds - 1 - l.number) l.state l.fn.state

abbrev pub decreases-loop-number : goal.decreases-loop-number
decreases-loop-number l = l.number
