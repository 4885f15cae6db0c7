use Rattle.wire_msg.proofs.FrameLaws.{no_frame_later}
use Rattle.wire_msg.proofs.laws.no_frame_stays.Goals as goal

pub returns : goal.returns
returns c = no_frame_later
