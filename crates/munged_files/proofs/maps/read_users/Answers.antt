use Rattle.std.proofs.Common.{refl, ap, Err, option_map}
use Rattle.munged_files.specs.MapFile.{bad_line, no_bytes}
use Rattle.munged_files.proofs.MapLemmas.{no_bad_line, no_users, refuses_named}
use Rattle.munged_files.proofs.FileLemmas.{name_told}
use Rattle.munged_files.proofs.maps.read_users.Goals as goal

pub returns-in_default-clause-users : goal.returns-in_default-clause-users
returns-in_default-clause-users g c =
    rw c.new.ensures.items
    (no_users _ _ _ (ap (option_map (λ name. name.now)) c.in_default.is) c.none.ensures)

pub returns-in-Err-clause-refused : goal.returns-in-Err-clause-refused
returns-in-Err-clause-refused g c =
    refuses_named _ _ _ _ _ (name_told (λ name. name.now) _ _ c.in-Some.is)
    (no_bytes c.in-Err.ensures.none)

pub unreachable-requires : goal.unreachable-requires
unreachable-requires g c =
    no_bad_line _ _ (c.in-Err-Group.ensures.bad_group c.in-Err-Group.field-0-0 (ap Err c.in-Err-Group.field-0-is))

pub returns-in-Err-Passwd-clause-refused : goal.returns-in-Err-Passwd-clause-refused
returns-in-Err-Passwd-clause-refused g c =
    let bad = c.in-Err-Passwd.ensures.bad_passwd c.in-Err-Passwd.line (ap Err c.in-Err-Passwd.field-0-is) in
    refuses_named _ _ _ _ _ (name_told (λ name. name.now) _ _ c.in-Some.is)
    (bad_line c.in-Ok.bytes.items c.in-Ok.ensures.bytes c.in-Err-Passwd.line
    (rw c.deref.ensures.value at bad) refl)
