use Rattle.std.proofs.Common.{◌++◌}
use Rattle.std.proofs.lemmas.Result.{MatchResult-from_err, on_err_weaker}
use Rattle.std.specs.Fmt.{decimal}
use Rattle.munged_run.proofs.TotalsCut.{cut_before, cut_behind}
use Rattle.munged_run.proofs.totals.put_count.Goals as goal

pub returns-in_err-put-clause-cut : goal.returns-in_err-put-clause-cut
returns-in_err-put-clause-cut g c =
    MatchResult-from_err c.from_residual.result _ _ c.from_residual.ensures.0
    (λ why. cut_before _ _ c.args.name.now (decimal c.args.count ++ c.args.end.now)
    c.in_err-put.ensures.cut)

pub returns-in_err-put-2-clause-cut : goal.returns-in_err-put-2-clause-cut
returns-in_err-put-2-clause-cut g c =
    MatchResult-from_err c.from_residual-in_err-put-2.result _ _
    c.from_residual-in_err-put-2.ensures.0
    (λ why. cut_behind _ (g.O.Sink.taken c.put.new.err) _ c.args.name.now
    (decimal c.args.count ++ c.args.end.now) c.in_ok-put.ensures.written
    (cut_before _ _ (decimal c.args.count) c.args.end.now
    (rw c.format.ensures.text at c.in_err-put-2.ensures.cut)))

pub returns-clause-cut : goal.returns-clause-cut
returns-clause-cut g c =
    on_err_weaker c.put-3.result
    (λ cut. cut_behind _ (g.O.Sink.taken c.put.new.err) _ c.args.name.now
    (decimal c.args.count ++ c.args.end.now) c.in_ok-put.ensures.written
    (cut_behind _ (g.O.Sink.taken c.put-2.new.err) _ (decimal c.args.count) c.args.end.now
    (rw c.format.ensures.text at c.in_ok-put-2.ensures.written) cut))
    c.put-3.ensures.cut
