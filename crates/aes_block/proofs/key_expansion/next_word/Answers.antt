use Rattle.std.proofs.Common.{length, ap, ap₂, ◌∙◌, arith}
use Rattle.aes_block.specs.State.{add_columns}
use Rattle.aes_block.specs.KeyExpansion.{added_word, next_word}
use Rattle.aes_block.proofs.Words.{word_at_read}
use Rattle.aes_block.proofs.key_expansion.next_word.Goals as goal

pub returns : goal.returns
unfolding next_word
returns c =
    c.bitxor.ensures
    ∙ ap₂ add_columns (word_at_read c.args.words.now _ _ (omega arith) c.index-words-i.is)
    (c.added_word.ensures ∙ ap (added_word c.args.key_words (length c.args.words.now)) (word_at_read c.args.words.now _ _ (omega arith) c.index-words-i-2.is))
