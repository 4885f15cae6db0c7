-- How the program ends after a session.
use Rattle.session_core.specs.declared.end.HowEnded.{HowEnded}
use Rattle.session_core.specs.declared.end.HowEnded.TheVariants as how
use Rattle.munged_files.specs.Ending.{Ending}
use Rattle.munged_files.specs.Ending as ending

-- how the program ends after a session that ended so
abbrev pub after_session : HowEnded → Ending
after_session how.Done = ending.done
after_session how.ReadFault = ending.input_failed
after_session how.WriteFault = ending.output_failed
after_session how.ClockFault = ending.clock_failed
after_session (how.Malformed place) = ending.malformed place
after_session how.Budget = ending.budget
after_session how.NoMemory = ending.no_memory
