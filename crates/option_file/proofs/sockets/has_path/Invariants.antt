use Rattle.std.proofs.Common.{◌≡◌, drop}
use Rattle.option_file.specs.Sockets.{has_path}
use Rattle.option_file.proofs.sockets.has_path.Given as goal

abbrev pub invariant-loop-line : goal.invariant-loop-line
invariant-loop-line l = has_path l.lines l.path ≡ has_path (drop l.line-index l.lines) l.path
