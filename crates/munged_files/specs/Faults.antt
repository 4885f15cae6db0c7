-- What becomes of the count of faults of the files.
use Rattle.std.specs.Prelude.{◌≡◌, ℕ}
use Rattle.std.specs.declared.result.Result.{Result}
use Rattle.std.specs.declared.result.Result.TheVariants.{Ok, Err}
use Rattle.byte_io.specs.Counts.{Rose}
use Rattle.munged_files.specs.Ending.{Ending}
use Rattle.munged_files.specs.Ending as ending
use Rattle.munged_files.specs.EndingTold.{ending_told}
use Rattle.munged_files.specs.declared.ending.Ending.{Ending as EndingHeld}

-- it rose where a file was not read, and stands else
abbrev pub FaultOf : Ending → (before now : ℕ) → Type 0
FaultOf (ending.unread name) before now = Rose before now
FaultOf ending.done before now = now ≡ before
FaultOf ending.no_command before now = now ≡ before
FaultOf (ending.wrong_size name size) before now = now ≡ before
FaultOf (ending.options refused) before now = now ≡ before
FaultOf (ending.bad_line name line) before now = now ≡ before
FaultOf (ending.too_long name size) before now = now ≡ before
FaultOf ending.input_failed before now = now ≡ before
FaultOf ending.output_failed before now = now ≡ before
FaultOf ending.clock_failed before now = now ≡ before
FaultOf (ending.malformed place) before now = now ≡ before
FaultOf ending.no_memory before now = now ≡ before
FaultOf ending.budget before now = now ≡ before
FaultOf ending.no_control before now = now ≡ before
FaultOf ending.socket_failed before now = now ≡ before
FaultOf ending.ticker_failed before now = now ≡ before
FaultOf (ending.worn ticket) before now = now ≡ before
FaultOf ending.unanswered before now = now ≡ before

-- so it is after what was read, or after the end for want of it
abbrev pub CountsFault : {T : Type 0} → Result T EndingHeld → (before now : ℕ) → Type 0
CountsFault (Ok _) before now = now ≡ before
CountsFault (Err why) before now = FaultOf (ending_told why) before now
