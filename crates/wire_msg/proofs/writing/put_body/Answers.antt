use Rattle.std.proofs.lemmas.List.{append_assoc}
use Rattle.wire_msg.proofs.writing.put_body.Goals as goal

pub returns-in-EncodeRequest-clause-appended : goal.returns-in-EncodeRequest-clause-appended
returns-in-EncodeRequest-clause-appended c =
    rw (c.in-EncodeRequest.is, c.put-in-EncodeRequest.ensures.appended, c.put.ensures.appended, c.ask_head.ensures.head, c.bytes.ensures.same)
    (append_assoc c.args.out.now.bytes _ _)
