use Rattle.std.proofs.Common.{arith, ap, ◌≤◌, ◌++◌, length, sym}
use Rattle.std.proofs.lemmas.List.{length-append}
use Rattle.wire_msg.proofs.Spelled.{allowed_within}
use Rattle.wire_msg.specs.FrameHead.{body_limit, side_of_kind}
use Rattle.wire_msg.proofs.reading.message_of.Goals as goal

pub returns-in-DecodeReply-clause-is_message : goal.returns-in-DecodeReply-clause-is_message
returns-in-DecodeReply-clause-is_message c =
    let size : length (c.args.fields.now ++ c.args.payload) ≤ body_limit =
    simp length-append (allowed_within c.args.kind _ c.requires.allowed) in
    record {
      sent_by = sym (ap side_of_kind c.in-DecodeReply.is);
      fits = c.said_in.ensures.fits;
      within = let same = ap length c.said_in.ensures.body in omega (arith, same, size);
    }
