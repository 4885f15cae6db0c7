-- What an `AskedRemunge` of the code stands for.
use Rattle.munge_tools.specs.RemungeWords.{AskedRemunge}
use Rattle.munge_tools.specs.declared.remunge_words.AskedRemunge.{AskedRemunge as AskedHeld}

abbrev pub remunge_told : AskedHeld → AskedRemunge
remunge_told asked =
    record {
      count = asked.count;
      decode = asked.decode;
      payload = asked.payload.now;
      socket = asked.socket.now;
    }
