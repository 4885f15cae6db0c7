use Rattle.std.proofs.Common.{arith, ◌∙◌}
use Rattle.aes_block.proofs.MixTables.{mixed_row0_at}
use Rattle.aes_block.proofs.tables.mixed_row0.Goals as goal

pub returns : goal.returns
returns c = c.new.ensures ∙ mixed_row0_at c.args.byte (omega arith)
