use Rattle.std.proofs.Common.{refl, arith}
use Rattle.group_map.proofs.LineLemmas.{group_from-unnamed, group_from-no_gid, group_from-some}
use Rattle.group_map.proofs.PieceLemmas.{more_pieces}
use Rattle.group_map.specs.GroupLine.{group_of}
use Rattle.group_map.proofs.group.group_of.Goals as goal

pub returns-in_err-name : goal.returns-in_err-name
unfolding group_of
returns-in_err-name c =
    rw (c.from_residual.ensures, c.in_err-name.ensures.pieces)
    refl

pub returns-in_err-_password : goal.returns-in_err-_password
unfolding group_of
returns-in_err-_password c =
    rw (c.from_residual-in_err-_password.ensures, c.in_ok-name.ensures.pieces, c.in_err-_password.ensures.pieces)
    refl

pub returns-in_err-gid : goal.returns-in_err-gid
unfolding group_of
returns-in_err-gid c =
    rw (c.from_residual-in_err-gid.ensures, c.in_ok-name.ensures.pieces, c.in_ok-_password.ensures.pieces, c.in_err-gid.ensures.pieces)
    refl

pub returns-in-Some : goal.returns-in-Some
unfolding group_of
returns-in-Some c =
    rw (c.in_ok-name.ensures.pieces, c.in_ok-_password.ensures.pieces, c.in_ok-gid.ensures.pieces, c.in-Some.ensures.pieces, (more_pieces 58 c.in-Some.field-0.1.now).2)
    refl

pub returns-then-is_empty : goal.returns-then-is_empty
unfolding group_of
returns-then-is_empty c =
    rw (c.in_ok-name.ensures.pieces, c.in_ok-_password.ensures.pieces, c.in_ok-gid.ensures.pieces, c.in_default.ensures.pieces)
    (group_from-unnamed c.in_ok-name.name.now _ _ (grind arith))

pub returns-in_err-gid-2 : goal.returns-in_err-gid-2
unfolding group_of
returns-in_err-gid-2 c =
    rw (c.from_residual-in_err-gid-2.ensures, c.in_ok-name.ensures.pieces, c.in_ok-_password.ensures.pieces, c.in_ok-gid.ensures.pieces, c.in_default.ensures.pieces, ← c.in_err-gid-2.ensures)
    (group_from-no_gid c.in_ok-name.name.now _)

pub returns : goal.returns
unfolding group_of
returns c =
    rw (c.in_ok-name.ensures.pieces, c.in_ok-_password.ensures.pieces, c.in_ok-gid.ensures.pieces, c.in_default.ensures.pieces, ← c.in_ok-gid-2.ensures)
    (group_from-some c.in_ok-name.name.now c.in_ok-gid-2.gid c.in_ok-gid.users.now (grind arith))
