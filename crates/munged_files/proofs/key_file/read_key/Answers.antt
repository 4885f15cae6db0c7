use Rattle.std.proofs.Common.{refl}
use Rattle.std.proofs.lemmas.Bool.{false≢true}
use Rattle.munged_files.specs.KeyFile.{refused}
use Rattle.munged_files.proofs.FileLemmas.{not_a_key}
use Rattle.munged_files.proofs.key_file.read_key.Goals as goal

pub returns-clause-no_key : goal.returns-clause-no_key
returns-clause-no_key g c =
    let taken = rw c.as_slice.ensures.value at c.in-Err.ensures.taken in
    refused c.in_ok-key.key.items c.in_ok-key.ensures.read
    (not_a_key _ (λ sized. false≢true (taken.1 sized)))
    (rw (c.len.ensures, c.in_ok-key.key.ok.0) refl)
