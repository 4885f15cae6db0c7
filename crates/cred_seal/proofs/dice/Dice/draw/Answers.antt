use Rattle.std.proofs.Common.{refl}
use Rattle.cred_seal.proofs.DiceWords.{first_half, second_half}
use Rattle.cred_seal.proofs.dice.Dice.draw.Goals as goal

pub returns-clause-vector : goal.returns-clause-vector
returns-clause-vector c =
    rw (
      c.copy_from_slice-2.ensures.after,
      c.copy_from_slice.ensures.after,
      first_half c.args.self.now.seed c.args.self.now.place _
          (rw c.two_words-salt.ensures.goes_on at c.two_words-first.ensures.value),
      second_half c.args.self.now.seed c.args.self.now.place _
          (rw (c.two_words-first.ensures.goes_on, c.two_words-salt.ensures.goes_on) at c.two_words-second.ensures.value),
    )
    refl
