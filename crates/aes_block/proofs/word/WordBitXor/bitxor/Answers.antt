use Rattle.aes_block.proofs.Packing.{column_of-xor}
use Rattle.aes_block.proofs.word.WordBitXor.bitxor.Goals as goal

pub returns : goal.returns
returns c = rw (← c.self.view_is, ← c.other.view_is) (column_of-xor c.self.inside.0 c.other.inside.0)
