use Rattle.load_maker.proofs.WordPlaces.{drawn_is}
use Rattle.load_maker.proofs.words.Words.draw.Goals as goal

pub returns-clause-value : goal.returns-clause-value
returns-clause-value c =
    drawn_is c.args.self.now.seed c.args.self.now.place _ _ _
    c.two_words-salt.ensures.value
    (rw c.two_words-salt.ensures.goes_on at c.four_words-iv.ensures.value)
    (rw (c.four_words-iv.ensures.goes_on, c.two_words-salt.ensures.goes_on) at c.four_words-payload.ensures.value)
