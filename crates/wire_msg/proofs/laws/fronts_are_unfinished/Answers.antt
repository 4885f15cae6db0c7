use Rattle.wire_msg.proofs.FrameLaws.{fewer_unfinished, none_unfinished}
use Rattle.wire_msg.proofs.laws.fronts_are_unfinished.Goals as goal

pub returns-clause-none_yet : goal.returns-clause-none_yet
returns-clause-none_yet c = none_unfinished

pub returns-clause-fewer : goal.returns-clause-fewer
returns-clause-fewer c = fewer_unfinished
