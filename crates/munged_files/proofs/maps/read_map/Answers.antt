use Rattle.std.proofs.Common.{refl, arith}
use Rattle.munged_files.specs.MapFile.{too_long}
use Rattle.munged_files.proofs.maps.read_map.Goals as goal

pub returns-then-len-clause-none : goal.returns-then-len-clause-none
returns-then-len-clause-none g c =
    too_long c.in_ok-bytes.bytes.items c.in_ok-bytes.ensures.read
    (omega (arith, c.if-len.true, c.len.ensures, c.in_ok-bytes.bytes.ok.0))
    (rw (c.len-then-len.ensures, c.in_ok-bytes.bytes.ok.0) refl)
