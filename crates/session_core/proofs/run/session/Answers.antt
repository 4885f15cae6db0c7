use Rattle.session_core.proofs.run.session.Goals as goal

pub returns-clause-ran : goal.returns-clause-ran
returns-clause-ran g c = λ files base is stands. rw c.dice_of-dice.ensures.seed at (c.answer_all.ensures.ran files base is stands)
