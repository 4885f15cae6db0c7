-- What an `Ending` of the code stands for.
use Rattle.munged_files.specs.Ending.{Ending}
use Rattle.munged_files.specs.Ending as told
use Rattle.munged_files.specs.declared.ending.Ending.{Ending as EndingHeld}
use Rattle.munged_files.specs.declared.ending.Ending.TheVariants.{Done, NoCommand, Unread, WrongSize, BadOptions, BadLine, TooLong, InputFailed, OutputFailed, ClockFailed, Malformed, NoMemory, Budget, NoControl, SocketFailed, Unanswered, TickerFailed, Worn}

abbrev pub ending_told : EndingHeld → Ending
ending_told Done = told.done
ending_told NoCommand = told.no_command
ending_told (Unread name) = told.unread name.now
ending_told (WrongSize name size) = told.wrong_size name.now size
ending_told (BadOptions refused) = told.options refused.now
ending_told (BadLine name line) = told.bad_line name.now line
ending_told (TooLong name size) = told.too_long name.now size
ending_told InputFailed = told.input_failed
ending_told OutputFailed = told.output_failed
ending_told ClockFailed = told.clock_failed
ending_told (Malformed place) = told.malformed place
ending_told NoMemory = told.no_memory
ending_told Budget = told.budget
ending_told NoControl = told.no_control
ending_told SocketFailed = told.socket_failed
ending_told Unanswered = told.unanswered
ending_told TickerFailed = told.ticker_failed
ending_told (Worn ticket) = told.worn ticket
