-- What an `AskedUnmunge` of the code stands for.
use Rattle.munge_tools.specs.UnmungeWords.{AskedUnmunge}
use Rattle.munge_tools.specs.declared.unmunge_words.AskedUnmunge.{AskedUnmunge as AskedHeld}

abbrev pub unmunge_told : AskedHeld → AskedUnmunge
unmunge_told asked = record { no_output = asked.no_output; socket = asked.socket.now }
