use Rattle.std.proofs.Common.{◌-◌, ◌≤◌, length, arith, sym, subst, ◌∙◌, length-take, length-drop}
use Rattle.std.specs.Io.KnownBytes.{Appends}
use Rattle.byte_io.proofs.StreamLemmas.{appends_more, take-rest_more}
use Rattle.byte_io.proofs.all_written.write_all.Goals as goal

pub put-preserved : goal.put-preserved
put-preserved g c =
    let from = c.args.from.now in
    let at = c.put.written in
    let n = c.in-Ok.n in
    let fits : n ≤ length from - at =
    omega (arith, simp (length-take, length-drop) at c.in-Ok.ensures.within) in (
      omega arith,
      subst (Appends _ _) (sym (take-rest_more at (length from - at) n from (omega arith)))
          (appends_more _ _ _ _ _ c.put.invariant.1 c.in-Ok.ensures.appended),
      c.in-Ok.ensures.sound ∙ c.put.invariant.2,
      c.in-Ok.ensures.beside ∙ c.put.invariant.3,
    )
