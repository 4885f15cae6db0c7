use Rattle.std.proofs.Common.{refl, ap, Err}
use Rattle.munged_files.specs.MapFile.{bad_line, no_bytes}
use Rattle.munged_files.proofs.MapLemmas.{not_both, refuses_named}
use Rattle.munged_files.proofs.FileLemmas.{name_told}
use Rattle.munged_files.proofs.maps.read_groups.Goals as goal

pub returns-in-Err-clause-refused : goal.returns-in-Err-clause-refused
returns-in-Err-clause-refused g c =
    refuses_named _ _ _ _ _ (name_told (λ name. name.now) _ _ c.in-Some.is)
    (no_bytes c.in-Err.ensures.none)

pub unreachable-requires : goal.unreachable-requires
unreachable-requires g c =
    let bad = c.in-Err-Passwd.ensures.bad_passwd c.in-Err-Passwd.field-0-0 (ap Err c.in-Err-Passwd.field-0-is) in
    not_both _ _ c.requires.right (rw c.deref.ensures.value at bad)

pub returns-in-Err-Group-clause-refused : goal.returns-in-Err-Group-clause-refused
returns-in-Err-Group-clause-refused g c =
    let bad = c.in-Err-Group.ensures.bad_group c.in-Err-Group.line (ap Err c.in-Err-Group.field-0-is) in
    refuses_named _ _ _ _ _ (name_told (λ name. name.now) _ _ c.in-Some.is)
    (bad_line c.in-Ok.bytes.items c.in-Ok.ensures.bytes c.in-Err-Group.line
    (rw c.deref-2.ensures.value at bad) refl)
