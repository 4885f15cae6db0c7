use Rattle.std.proofs.Common.{arith}
use Rattle.aes_block.proofs.SBoxTables.{sub_byte-inverse_s_box}
use Rattle.aes_block.proofs.s_box.inverse_sub_byte.Goals as goal

pub returns : goal.returns
returns c = sub_byte-inverse_s_box c.args.byte (omega arith)
