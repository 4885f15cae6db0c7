use Rattle.std.proofs.Common.{refl}
use Rattle.munged_files.specs.SeedFile.{refused}
use Rattle.munged_files.proofs.FileLemmas.{name_told, seed_unread}
use Rattle.munged_files.proofs.seed_file.read_seed.Goals as goal

pub returns-in-Err-clause-no_seed : goal.returns-in-Err-clause-no_seed
returns-in-Err-clause-no_seed g c =
    seed_unread _ _ c.in-Some.name.now _ (name_told (λ name. name.now) _ _ c.in-Some.is)
    c.in-Err.ensures.unread

pub returns-clause-no_seed : goal.returns-clause-no_seed
returns-clause-no_seed g c =
    let short = rw c.deref.ensures.value at c.in-None.ensures.short in
    refused c.in-Some.name.now c.in-Ok.bytes.items (name_told (λ name. name.now) _ _ c.in-Some.is)
    c.in-Ok.ensures.read short (rw (c.len.ensures, c.in-Ok.bytes.ok.0) refl)
