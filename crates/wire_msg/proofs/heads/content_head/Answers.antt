use Rattle.std.proofs.Common.{arith, ◌≡◌, length}
use Rattle.wire_msg.proofs.WrittenFields.{content_whole}
use Rattle.wire_msg.proofs.heads.content_head.Goals as goal

pub returns-clause-head : goal.returns-clause-head
returns-clause-head c =
    let addr : length c.args.fields.now.addr ≡ 4 = omega arith in
    content_whole c.args.fields.now
    c.put.new.head c.put-2.new.head c.put-3.new.head c.put-4.new.head c.put-5.new.head c.put-6.new.head c.put-7.new.head c.put-8.new.head
    (omega arith) c.put.ensures.front (rw addr at c.put-2.ensures.front)
    (rw c.four_bytes.ensures.bytes at c.put-3.ensures.front) (rw c.four_bytes-2.ensures.bytes at c.put-4.ensures.front)
    (rw c.four_bytes-3.ensures.bytes at c.put-5.ensures.front) (rw c.four_bytes-4.ensures.bytes at c.put-6.ensures.front)
    (rw c.four_bytes-5.ensures.bytes at c.put-7.ensures.front) (rw c.four_bytes-6.ensures.bytes at c.put-8.ensures.front)

pub returns-clause-fits : goal.returns-clause-fits
returns-clause-fits c =
    record {
      cipher = c.put.ensures.bytes 0;
      kind = c.put.ensures.bytes 1;
      addr_size = omega arith;
      addr = c.put-2.ensures.bytes;
      time = c.four_bytes.ensures.fits;
      ttl = c.four_bytes-2.ensures.fits;
      uid = c.four_bytes-3.ensures.fits;
      gid = c.four_bytes-4.ensures.fits;
      for_uid = c.four_bytes-5.ensures.fits;
      for_gid = c.four_bytes-6.ensures.fits;
    }
