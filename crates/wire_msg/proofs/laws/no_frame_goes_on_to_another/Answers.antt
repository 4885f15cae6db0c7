use Rattle.wire_msg.proofs.FrameLaws.{no_longer_frame}
use Rattle.wire_msg.proofs.laws.no_frame_goes_on_to_another.Goals as goal

pub returns : goal.returns
returns c = no_longer_frame
