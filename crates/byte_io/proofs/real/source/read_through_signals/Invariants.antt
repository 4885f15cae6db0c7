use Rattle.std.specs.Io.KnownBytes.{Keeps}
use Rattle.byte_io.proofs.real.source.read_through_signals.Given as goal

-- a read that was interrupted took nothing
abbrev pub invariant-tries : goal.invariant-tries
invariant-tries g l = Keeps (g.R.Read.remaining l.initial.from) (g.R.Read.remaining l.from)
