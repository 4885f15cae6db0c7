use Rattle.std.proofs.Common.{refl}
use Rattle.load_maker.specs.Words.{four_words, key_of}
use Rattle.load_maker.proofs.words.Words.key.Goals as goal

pub returns-clause-value : goal.returns-clause-value
unfolding key_of four_words
returns-clause-value c =
    let second = rw (c.four_words-first.ensures.goes_on, c.requires) at c.four_words-second.ensures.value in
    rw (
      c.copy_from_slice-2.ensures.after,
      c.copy_from_slice.ensures.after,
      rw c.requires at c.four_words-first.ensures.value,
      second,
    )
    refl
