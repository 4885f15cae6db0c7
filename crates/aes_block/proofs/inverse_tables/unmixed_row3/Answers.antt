use Rattle.std.proofs.Common.{arith, ◌∙◌}
use Rattle.aes_block.proofs.UnmixTables.{unmixed_row3_at}
use Rattle.aes_block.proofs.inverse_tables.unmixed_row3.Goals as goal

pub returns : goal.returns
returns c = c.new.ensures ∙ unmixed_row3_at c.args.byte (omega arith)
