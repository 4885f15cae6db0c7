use Rattle.std.proofs.Common.{arith, ◌≡◌, length}
use Rattle.cred_inner.specs.Inner.{content_of}
use Rattle.cred_inner.proofs.InnerWriting.{head_whole, head_first}
use Rattle.cred_inner.proofs.writing.inner_head.Goals as goal

pub returns-clause-whole : goal.returns-clause-whole
returns-clause-whole c =
    let salt : length c.args.inner.now.salt ≡ 8 = omega arith in
    let addr : length c.args.inner.now.addr ≡ 4 = omega arith in
    head_whole (content_of c.args.inner.now)
    c.put.new.head c.put-2.new.head c.put-3.new.head c.put-4.new.head c.put-5.new.head c.put-6.new.head c.put-7.new.head c.put-8.new.head
    c.put-9.new.head c.put-10.new.head c.put-10.array_long
    (rw salt at c.put.ensures.front) c.put-2.ensures.front (rw addr at c.put-3.ensures.front)
    (rw c.to_be_bytes.ensures at c.put-4.ensures.front)
    (rw c.to_be_bytes-2.ensures at c.put-5.ensures.front)
    (rw c.to_be_bytes-3.ensures at c.put-6.ensures.front)
    (rw c.to_be_bytes-4.ensures at c.put-7.ensures.front)
    (rw c.to_be_bytes-5.ensures at c.put-8.ensures.front)
    (rw c.to_be_bytes-6.ensures at c.put-9.ensures.front)
    (rw (c.to_be_bytes-7.ensures, c.length_of.ensures.length) at c.put-10.ensures.front)

pub returns-clause-head : goal.returns-clause-head
returns-clause-head c =
    head_first (content_of c.args.inner.now) c.put-10.new.head c.put-10.array_long (returns-clause-whole c)

pub returns-clause-content : goal.returns-clause-content
returns-clause-content c =
    record {
      salt_size = omega arith;
      salt_bytes = c.put.ensures.bytes;
      addr_size = omega arith;
      addr_bytes = c.put-3.ensures.bytes;
      time_fits = omega arith;
      ttl_fits = omega arith;
      uid_fits = omega arith;
      gid_fits = omega arith;
      for_uid_fits = omega arith;
      for_gid_fits = omega arith;
      payload_within = c.requires;
      payload_bytes = c.length_of.ensures.bytes;
    }
