use Rattle.std.specs.Prelude.{All}
use Rattle.byte_io.specs.MemDoor.{HasNoFault}
use Rattle.byte_io.proofs.tests.doors.links.Given as goal

-- those made so far have had no fault
abbrev pub invariant-loop-text : goal.invariant-loop-text
invariant-loop-text l = All HasNoFault l.conns.items
