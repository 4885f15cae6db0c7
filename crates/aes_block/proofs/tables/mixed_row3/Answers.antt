use Rattle.std.proofs.Common.{arith, ◌∙◌}
use Rattle.aes_block.proofs.MixTables.{mixed_row3_at}
use Rattle.aes_block.proofs.tables.mixed_row3.Goals as goal

pub returns : goal.returns
returns c = c.new.ensures ∙ mixed_row3_at c.args.byte (omega arith)
