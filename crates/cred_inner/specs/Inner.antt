-- What an `Inner` stands for.
use Rattle.cred_inner.specs.InnerPart.{Content}
use Rattle.cred_inner.specs.declared.inner.Inner.{Inner}

abbrev pub content_of : Inner → Content
content_of inner =
    record {
      salt = inner.salt;
      addr = inner.addr;
      time = inner.time;
      ttl = inner.ttl;
      uid = inner.uid;
      gid = inner.gid;
      for_uid = inner.for_uid;
      for_gid = inner.for_gid;
      payload = inner.payload.now;
    }
