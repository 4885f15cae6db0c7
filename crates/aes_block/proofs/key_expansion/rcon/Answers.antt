use Rattle.std.proofs.Common.{◌-◌, ◌∙◌, arith}
use Rattle.aes_block.specs.KeyExpansion.{rcon}
use Rattle.aes_block.proofs.KeyWords.{power_of_x_at}
use Rattle.aes_block.proofs.key_expansion.rcon.Goals as goal

pub returns : goal.returns
unfolding rcon
returns c = c.from_rows.ensures ∙ (λ i. record { row0 = power_of_x_at (c.args.j - 1) (omega arith) i; row1 = 0; row2 = 0; row3 = 0 })
