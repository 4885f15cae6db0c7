use Rattle.std.proofs.Common.{refl, arith}
use Rattle.group_map.proofs.LineLemmas.{user_from-unnamed, user_from-no_uid, user_from-no_gid, user_from-some}
use Rattle.group_map.proofs.PieceLemmas.{more_pieces}
use Rattle.group_map.specs.PasswdLine.{user_of}
use Rattle.group_map.proofs.passwd.user_of.Goals as goal

pub returns-in_err-name : goal.returns-in_err-name
unfolding user_of
returns-in_err-name c =
    rw (c.from_residual.ensures, c.in_err-name.ensures.pieces)
    refl

pub returns-in_err-_password : goal.returns-in_err-_password
unfolding user_of
returns-in_err-_password c =
    rw (c.from_residual-in_err-_password.ensures, c.in_ok-name.ensures.pieces, c.in_err-_password.ensures.pieces)
    refl

pub returns-in_err-uid : goal.returns-in_err-uid
unfolding user_of
returns-in_err-uid c =
    rw (c.from_residual-in_err-uid.ensures, c.in_ok-name.ensures.pieces, c.in_ok-_password.ensures.pieces, c.in_err-uid.ensures.pieces)
    refl

pub returns-in_err-gid : goal.returns-in_err-gid
unfolding user_of
returns-in_err-gid c =
    rw (c.from_residual-in_err-gid.ensures, c.in_ok-name.ensures.pieces, c.in_ok-_password.ensures.pieces, c.in_ok-uid.ensures.pieces, c.in_err-gid.ensures.pieces)
    refl

pub returns-in_err-_comment : goal.returns-in_err-_comment
unfolding user_of
returns-in_err-_comment c =
    rw (c.from_residual-in_err-_comment.ensures, c.in_ok-name.ensures.pieces, c.in_ok-_password.ensures.pieces, c.in_ok-uid.ensures.pieces, c.in_ok-gid.ensures.pieces, c.in_err-_comment.ensures.pieces)
    refl

pub returns-in_err-_home : goal.returns-in_err-_home
unfolding user_of
returns-in_err-_home c =
    rw (c.from_residual-in_err-_home.ensures, c.in_ok-name.ensures.pieces, c.in_ok-_password.ensures.pieces, c.in_ok-uid.ensures.pieces, c.in_ok-gid.ensures.pieces, c.in_ok-_comment.ensures.pieces, c.in_err-_home.ensures.pieces)
    refl

pub returns-in-Some : goal.returns-in-Some
unfolding user_of
returns-in-Some c =
    rw (c.in_ok-name.ensures.pieces, c.in_ok-_password.ensures.pieces, c.in_ok-uid.ensures.pieces, c.in_ok-gid.ensures.pieces, c.in_ok-_comment.ensures.pieces, c.in_ok-_home.ensures.pieces, c.in-Some.ensures.pieces, (more_pieces 58 c.in-Some.field-0.1.now).2)
    refl

pub returns-then-is_empty : goal.returns-then-is_empty
unfolding user_of
returns-then-is_empty c =
    rw (c.in_ok-name.ensures.pieces, c.in_ok-_password.ensures.pieces, c.in_ok-uid.ensures.pieces, c.in_ok-gid.ensures.pieces, c.in_ok-_comment.ensures.pieces, c.in_ok-_home.ensures.pieces, c.in_default.ensures.pieces)
    (user_from-unnamed c.in_ok-name.name.now _ _ (grind arith))

pub returns-in_err-uid-2 : goal.returns-in_err-uid-2
unfolding user_of
returns-in_err-uid-2 c =
    rw (c.from_residual-in_err-uid-2.ensures, c.in_ok-name.ensures.pieces, c.in_ok-_password.ensures.pieces, c.in_ok-uid.ensures.pieces, c.in_ok-gid.ensures.pieces, c.in_ok-_comment.ensures.pieces, c.in_ok-_home.ensures.pieces, c.in_default.ensures.pieces, ← c.in_err-uid-2.ensures)
    (user_from-no_uid c.in_ok-name.name.now _)

pub returns-in_err-_gid : goal.returns-in_err-_gid
unfolding user_of
returns-in_err-_gid c =
    rw (c.from_residual-in_err-_gid.ensures, c.in_ok-name.ensures.pieces, c.in_ok-_password.ensures.pieces, c.in_ok-uid.ensures.pieces, c.in_ok-gid.ensures.pieces, c.in_ok-_comment.ensures.pieces, c.in_ok-_home.ensures.pieces, c.in_default.ensures.pieces, ← c.in_err-_gid.ensures)
    (user_from-no_gid c.in_ok-name.name.now _)

pub returns : goal.returns
unfolding user_of
returns c =
    rw (c.in_ok-name.ensures.pieces, c.in_ok-_password.ensures.pieces, c.in_ok-uid.ensures.pieces, c.in_ok-gid.ensures.pieces, c.in_ok-_comment.ensures.pieces, c.in_ok-_home.ensures.pieces, c.in_default.ensures.pieces, ← c.in_ok-uid-2.ensures, ← c.in_ok-_gid.ensures)
    (user_from-some c.in_ok-name.name.now c.in_ok-uid-2.uid c.in_ok-_gid._gid (grind arith))
