use Rattle.std.proofs.Common.{sym, arith}
use Rattle.munged_run.specs.ExerciseWords.{largest_number}
use Rattle.munged_run.proofs.NumberLemmas.{number_within-unread}
use Rattle.munged_run.proofs.exercise_words.number_of_word.Goals as goal

pub returns-in_default : goal.returns-in_default
returns-in_default c =
    sym (number_within-unread 64 0 largest_number c.args.word.now c.in_default.ensures.value.0 (omega arith) (sym c.if-not-is_number.ensures))
