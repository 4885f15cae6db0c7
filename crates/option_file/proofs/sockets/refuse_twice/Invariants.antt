use Rattle.std.proofs.Common.{◌≡◌, take, drop, []}
use Rattle.option_file.specs.Sockets.{first_twice}
use Rattle.option_file.proofs.sockets.refuse_twice.Given as goal

abbrev pub invariant-loop-at : goal.invariant-loop-at
invariant-loop-at l =
    first_twice [] 0 l.lines ≡ first_twice (take l.at l.lines) l.at (drop l.at l.lines)
