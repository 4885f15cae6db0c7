use Rattle.std.proofs.Common.{length, take, ◌-◌, ◌≡◌, ◌≤◌}
use Rattle.std.specs.Io.KnownBytes.{Appends}
use Rattle.byte_io.proofs.all_written.write_all.Given as goal

-- what went out is the front that is written, no write failed, and what stands beside is as it was
abbrev pub invariant-put : goal.invariant-put
invariant-put g l =
    (l.written ≤ length l.from)
    × Appends (g.O.Sink.taken l.initial.out) (g.O.Sink.taken l.out) (take l.written l.from)
    × (g.O.Sink.write_faults l.out ≡ g.O.Sink.write_faults l.initial.out)
    × (g.O.Sink.beside_writes l.out ≡ g.O.Sink.beside_writes l.initial.out)

abbrev pub decreases-put : goal.decreases-put
decreases-put g l = length l.from - l.written
