use Rattle.wire_msg.proofs.Decided.{decide_frame}
use Rattle.wire_msg.proofs.Frames.{begun_not_unfinished, some_frame}
use Rattle.wire_msg.proofs.laws.just_one_holds.Goals as goal

pub returns-clause-one_does : goal.returns-clause-one_does
returns-clause-one_does c = decide_frame

pub returns-clause-not_the_first_two : goal.returns-clause-not_the_first_two
returns-clause-not_the_first_two c = begun_not_unfinished

pub returns-clause-not_the_third_with_one : goal.returns-clause-not_the_third_with_one
returns-clause-not_the_third_with_one c = some_frame
