use Rattle.std.proofs.Common.{arith}
use Rattle.aes_block.specs.KeyExpansion.{round_key}
use Rattle.aes_block.proofs.Words.{word_at_read}
use Rattle.aes_block.proofs.cipher.round_key.Goals as goal

pub returns : goal.returns
unfolding round_key
returns c i = record {
  column0 = word_at_read c.args.words.now _ _ (omega arith) c.index-words-round.is i;
  column1 = word_at_read c.args.words.now _ _ (omega arith) c.index-words-round-2.is i;
  column2 = word_at_read c.args.words.now _ _ (omega arith) c.index-words-round-3.is i;
  column3 = word_at_read c.args.words.now _ _ (omega arith) c.index-words-round-4.is i;
}
