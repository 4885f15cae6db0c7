use Rattle.std.specs.Prelude.{All}
use Rattle.byte_io.specs.MemHall.{HasNoDoorFault}
use Rattle.byte_io.proofs.tests.doors.doors.Given as goal

-- those made so far have had no fault
abbrev pub invariant-loop-path : goal.invariant-loop-path
invariant-loop-path l = All HasNoDoorFault l.doors.items
