use Rattle.std.proofs.Common.{length, take, ◌-◌, ◌≡◌, ◌≤◌}
use Rattle.std.specs.Io.KnownBytes.{Consumes}
use Rattle.byte_io.proofs.full_read.read_full.Given as goal

-- what was read is the front that is filled; no read failed, none found the end, and what stands
-- beside is as it was
abbrev pub invariant-fill : goal.invariant-fill
invariant-fill g l =
    (l.filled ≤ length l.into)
    × Consumes (g.I.Source.left l.initial.input) (g.I.Source.left l.input) (take l.filled l.into)
    × (g.I.Source.read_faults l.input ≡ g.I.Source.read_faults l.initial.input)
    × (g.I.Source.ends l.input ≡ g.I.Source.ends l.initial.input)
    × (g.I.Source.beside_reads l.input ≡ g.I.Source.beside_reads l.initial.input)

abbrev pub decreases-fill : goal.decreases-fill
decreases-fill g l = length l.into - l.filled
