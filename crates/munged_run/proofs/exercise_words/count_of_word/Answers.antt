use Rattle.std.proofs.Common.{sym, arith}
use Rattle.munged_run.proofs.NumberLemmas.{number_within-unread}
use Rattle.munged_run.proofs.exercise_words.count_of_word.Goals as goal

pub returns-in_default-clause-value : goal.returns-in_default-clause-value
returns-in_default-clause-value c =
    sym (number_within-unread 32 1 c.args.most c.args.word.now c.in_default.ensures.value.0 (omega (arith, c.ranges.most.fits)) (sym c.if-not-is_number.ensures))
