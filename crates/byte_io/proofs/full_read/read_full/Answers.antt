use Rattle.std.proofs.Common.{◌<◌, arith, rules, sym, subst, ◌∙◌}
use Rattle.std.specs.Io.KnownBytes.{Consumes}
use Rattle.byte_io.proofs.StreamLemmas.{consumes_more, take-put_mid_more}
use Rattle.byte_io.proofs.full_read.read_full.Goals as goal

pub fill-preserved : goal.fill-preserved
fill-preserved g c =
    let at = c.fill.filled in
    let n = c.in-Ok.n in
    let some : 0 < n = omega (arith, c.in-Ok.n-test.1) in (
      search rules,
      subst (Consumes _ _)
          (sym (take-put_mid_more at _ n c.fill.into c.read.new.into c.fill.invariant.0 c.in-Ok.ensures.within))
          (consumes_more _ _ _ _ _ c.fill.invariant.1 c.in-Ok.ensures.consumed.0),
      c.in-Ok.ensures.sound ∙ c.fill.invariant.2,
      c.in-Ok.ensures.open some ∙ c.fill.invariant.3,
      c.in-Ok.ensures.beside ∙ c.fill.invariant.4,
    )
