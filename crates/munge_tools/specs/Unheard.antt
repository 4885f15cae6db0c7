-- How a tool ends where no fitting reply came.
use Rattle.munge_tools.specs.declared.ending.Ending.{Ending}
use Rattle.munge_tools.specs.declared.ending.Ending.TheVariants as ending
use Rattle.munge_tools.specs.declared.exchange.Unheard.{Unheard}
use Rattle.munge_tools.specs.declared.exchange.Unheard.TheVariants.{Unreached, BadReply, NoMemory}

abbrev pub ending_of : Unheard → Ending
ending_of Unreached = ending.Unreached
ending_of BadReply = ending.BadReply
ending_of NoMemory = ending.NoMemory
