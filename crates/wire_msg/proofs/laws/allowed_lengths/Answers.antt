use Rattle.std.proofs.Common.{refl}
use Rattle.wire_msg.proofs.FrameLaws.{message_allowed}
use Rattle.wire_msg.proofs.Frames.{frame_laid}
use Rattle.wire_msg.proofs.laws.allowed_lengths.Goals as goal

pub returns-clause-every_body : goal.returns-clause-every_body
returns-clause-every_body c =
    λ side kind body sent_by allowed bytes.
    frame_laid side kind _ body (record { sent_by = sent_by; allowed = allowed }) refl bytes

pub returns-clause-no_other : goal.returns-clause-no_other
returns-clause-no_other c = message_allowed
