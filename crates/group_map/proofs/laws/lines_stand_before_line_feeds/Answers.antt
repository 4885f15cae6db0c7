use Rattle.std.proofs.Common.{[], refl}
use Rattle.group_map.proofs.PieceLemmas.{lines-none, lines-first, lines-last}
use Rattle.group_map.proofs.laws.lines_stand_before_line_feeds.Goals as goal

pub returns-clause-none : goal.returns-clause-none
returns-clause-none c = lines-none [] refl

pub returns-clause-last : goal.returns-clause-last
returns-clause-last c = lines-last

pub returns-clause-first : goal.returns-clause-first
returns-clause-first c = lines-first
