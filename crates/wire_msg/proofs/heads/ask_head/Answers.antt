use Rattle.std.proofs.Common.{arith}
use Rattle.wire_msg.proofs.WrittenFields.{ask_whole}
use Rattle.wire_msg.proofs.heads.ask_head.Goals as goal

pub returns-clause-head : goal.returns-clause-head
returns-clause-head c =
    ask_whole c.args.ask.now c.put.new.head c.put-2.new.head c.put-3.new.head c.put-4.new.head
    (omega arith) c.put.ensures.front
    (rw c.four_bytes.ensures.bytes at c.put-2.ensures.front)
    (rw c.four_bytes-2.ensures.bytes at c.put-3.ensures.front)
    (rw c.four_bytes-3.ensures.bytes at c.put-4.ensures.front)

pub returns-clause-fits : goal.returns-clause-fits
returns-clause-fits c =
    λ payload.
    record {
      cipher = c.put.ensures.bytes 0;
      kind = c.put.ensures.bytes 1;
      ttl = c.four_bytes.ensures.fits;
      for_uid = c.four_bytes-2.ensures.fits;
      for_gid = c.four_bytes-3.ensures.fits;
      payload = payload;
    }
