-- What an `AskedMunge` of the code stands for.
use Rattle.munge_tools.specs.MungeWords.{AskedMunge, Payload}
use Rattle.munge_tools.specs.MungeWords as told
use Rattle.munge_tools.specs.declared.munge_words.AskedMunge.{AskedMunge as AskedHeld}
use Rattle.munge_tools.specs.declared.munge_words.Payload.{Payload as PayloadHeld}
use Rattle.munge_tools.specs.declared.munge_words.Payload.TheVariants.{Text, Nothing, Input}

abbrev pub payload_told : PayloadHeld → Payload
payload_told (Text given) = told.text given.now
payload_told Nothing = told.nothing
payload_told Input = told.input

abbrev pub munge_told : AskedHeld → AskedMunge
munge_told asked =
    record {
      payload = payload_told asked.payload;
      cipher = asked.cipher;
      mac = asked.mac;
      for_uid = asked.for_uid;
      for_gid = asked.for_gid;
      ttl = asked.ttl;
      socket = asked.socket.now;
    }
