use Rattle.std.proofs.Common.{rules, ◌≡◌, sym, true}
use Rattle.std.specs.List.{list_all}
use Rattle.munge_tools.specs.Words.{is_digit}
use Rattle.munge_tools.proofs.NumberLemmas.{number_of-unread}
use Rattle.munge_tools.proofs.words.number_of_word.Goals as goal

pub returns-in_default : goal.returns-in_default
returns-in_default c =
    let digits : list_all is_digit c.args.word.now ≡ true = search rules in
    sym (number_of-unread c.args.least c.args.most c.args.word.now c.ranges.most.fits c.in_default.ensures.value.0 digits)
