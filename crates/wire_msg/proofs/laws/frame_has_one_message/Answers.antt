use Rattle.wire_msg.proofs.FrameLaws.{frame_once}
use Rattle.wire_msg.proofs.laws.frame_has_one_message.Goals as goal

pub returns : goal.returns
returns c = frame_once
