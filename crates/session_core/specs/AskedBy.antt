-- What an encode request asks to be sealed.
use Rattle.cred_seal.specs.Asked.{Asked}
use Rattle.wire_msg.specs.declared.message.EncodeAsk.{EncodeAsk}

-- its fields
abbrev pub asked_by : EncodeAsk → Asked
asked_by ask =
    record {
      cipher = ask.cipher;
      kind = ask.kind;
      ttl = ask.ttl;
      for_uid = ask.for_uid;
      for_gid = ask.for_gid;
      payload = ask.payload;
    }
