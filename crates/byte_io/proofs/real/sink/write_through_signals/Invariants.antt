use Rattle.std.specs.Io.KnownBytes.{Keeps}
use Rattle.byte_io.proofs.real.sink.write_through_signals.Given as goal

-- a write that was interrupted took nothing
abbrev pub invariant-tries : goal.invariant-tries
invariant-tries g l = Keeps (g.W.Write.contents l.initial.to) (g.W.Write.contents l.to)
