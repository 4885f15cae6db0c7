use Rattle.std.proofs.Common.{refl, arith}
use Rattle.munged_files.specs.SeedFile.{too_few}
use Rattle.munged_files.proofs.seed_file.read_seeds.Goals as goal

pub returns-then-len-size-clause-no_seeds : goal.returns-then-len-size-clause-no_seeds
returns-then-len-size-clause-no_seeds g c =
    too_few c.in-Ok.bytes.items c.in-Ok.ensures.read
    (omega (arith, c.if-len-size.true, c.len.ensures, c.in-Ok.bytes.ok.0))
    (rw (c.len-then-len-size.ensures, c.in-Ok.bytes.ok.0) refl)
