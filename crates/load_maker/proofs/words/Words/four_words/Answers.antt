use Rattle.std.proofs.Common.{refl}
use Rattle.load_maker.specs.Words.{four_words}
use Rattle.load_maker.proofs.WordPlaces.{second_half}
use Rattle.load_maker.proofs.words.Words.four_words.Goals as goal

pub returns-clause-value : goal.returns-clause-value
unfolding four_words
returns-clause-value c =
    rw (
      c.copy_from_slice-2.ensures.after,
      c.copy_from_slice.ensures.after,
      c.two_words-first.ensures.value,
      second_half c.args.self.now.seed c.args.self.now.place _
          (rw c.two_words-first.ensures.goes_on at c.two_words-second.ensures.value),
    )
    refl
