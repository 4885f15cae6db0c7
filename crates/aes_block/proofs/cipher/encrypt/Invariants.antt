use Rattle.std.proofs.Common.{◌≡◌, ◌-◌}
use Rattle.aes_block.specs.Cipher.{rounds}
use Rattle.aes_block.proofs.cipher.encrypt.Given as goal

-- the rounds that are left make of this state what all of them make of the first
abbrev pub invariant-loop-number : goal.invariant-loop-number
invariant-loop-number l =
    rounds l.words l.number (l.rounds - l.number) l.state ≡ rounds l.words 1 (l.rounds - 1) l.initial.state
