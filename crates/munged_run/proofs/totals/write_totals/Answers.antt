use Rattle.std.proofs.Common.{codes, ◌++◌}
use Rattle.std.proofs.lemmas.Result.{MatchResult-from_err, on_err_weaker}
use Rattle.munged_run.specs.Totals.{counted}
use Rattle.munged_run.proofs.TotalsCut.{cut_before, cut_behind}
use Rattle.munged_run.proofs.totals.write_totals.Goals as goal

pub returns-in_err-put_count-clause-cut : goal.returns-in_err-put_count-clause-cut
returns-in_err-put_count-clause-cut g c =
    let tally = c.args.tally in
    let presented = counted (codes "presented ") tally.presented (codes " ") in
    let accepted = counted (codes "accepted ") tally.accepted (codes " ") in
    let replayed = counted (codes "replayed ") tally.replayed (codes " ") in
    let expired = counted (codes "expired ") tally.expired (codes " ") in
    let kept = counted (codes "kept ") c.args.kept (codes "\n") in
    MatchResult-from_err c.from_residual.result _ _ c.from_residual.ensures.0
    (λ why. cut_before _ _ presented (accepted ++ (replayed ++ (expired ++ kept)))
    c.in_err-put_count.ensures.cut)

pub returns-in_err-put_count-2-clause-cut : goal.returns-in_err-put_count-2-clause-cut
returns-in_err-put_count-2-clause-cut g c =
    let tally = c.args.tally in
    let presented = counted (codes "presented ") tally.presented (codes " ") in
    let accepted = counted (codes "accepted ") tally.accepted (codes " ") in
    let replayed = counted (codes "replayed ") tally.replayed (codes " ") in
    let expired = counted (codes "expired ") tally.expired (codes " ") in
    let kept = counted (codes "kept ") c.args.kept (codes "\n") in
    MatchResult-from_err c.from_residual-in_err-put_count-2.result _ _
    c.from_residual-in_err-put_count-2.ensures.0
    (λ why. cut_behind _ (g.O.Sink.taken c.put_count.new.out) _ presented
    (accepted ++ (replayed ++ (expired ++ kept))) c.in_ok-put_count.ensures.written
    (cut_before _ _ accepted (replayed ++ (expired ++ kept)) c.in_err-put_count-2.ensures.cut))

pub returns-in_err-put_count-3-clause-cut : goal.returns-in_err-put_count-3-clause-cut
returns-in_err-put_count-3-clause-cut g c =
    let tally = c.args.tally in
    let presented = counted (codes "presented ") tally.presented (codes " ") in
    let accepted = counted (codes "accepted ") tally.accepted (codes " ") in
    let replayed = counted (codes "replayed ") tally.replayed (codes " ") in
    let expired = counted (codes "expired ") tally.expired (codes " ") in
    let kept = counted (codes "kept ") c.args.kept (codes "\n") in
    MatchResult-from_err c.from_residual-in_err-put_count-3.result _ _
    c.from_residual-in_err-put_count-3.ensures.0
    (λ why. cut_behind _ (g.O.Sink.taken c.put_count.new.out) _ presented
    (accepted ++ (replayed ++ (expired ++ kept))) c.in_ok-put_count.ensures.written
    (cut_behind _ (g.O.Sink.taken c.put_count-2.new.out) _ accepted
    (replayed ++ (expired ++ kept)) c.in_ok-put_count-2.ensures.written
    (cut_before _ _ replayed (expired ++ kept) c.in_err-put_count-3.ensures.cut)))

pub returns-in_err-put_count-4-clause-cut : goal.returns-in_err-put_count-4-clause-cut
returns-in_err-put_count-4-clause-cut g c =
    let tally = c.args.tally in
    let presented = counted (codes "presented ") tally.presented (codes " ") in
    let accepted = counted (codes "accepted ") tally.accepted (codes " ") in
    let replayed = counted (codes "replayed ") tally.replayed (codes " ") in
    let expired = counted (codes "expired ") tally.expired (codes " ") in
    let kept = counted (codes "kept ") c.args.kept (codes "\n") in
    MatchResult-from_err c.from_residual-in_err-put_count-4.result _ _
    c.from_residual-in_err-put_count-4.ensures.0
    (λ why. cut_behind _ (g.O.Sink.taken c.put_count.new.out) _ presented
    (accepted ++ (replayed ++ (expired ++ kept))) c.in_ok-put_count.ensures.written
    (cut_behind _ (g.O.Sink.taken c.put_count-2.new.out) _ accepted
    (replayed ++ (expired ++ kept)) c.in_ok-put_count-2.ensures.written
    (cut_behind _ (g.O.Sink.taken c.put_count-3.new.out) _ replayed (expired ++ kept)
    c.in_ok-put_count-3.ensures.written
    (cut_before _ _ expired kept c.in_err-put_count-4.ensures.cut))))

pub returns-clause-cut : goal.returns-clause-cut
returns-clause-cut g c =
    let tally = c.args.tally in
    let presented = counted (codes "presented ") tally.presented (codes " ") in
    let accepted = counted (codes "accepted ") tally.accepted (codes " ") in
    let replayed = counted (codes "replayed ") tally.replayed (codes " ") in
    let expired = counted (codes "expired ") tally.expired (codes " ") in
    let kept = counted (codes "kept ") c.args.kept (codes "\n") in
    on_err_weaker c.put_count-5.result
    (λ cut. cut_behind _ (g.O.Sink.taken c.put_count.new.out) _ presented
    (accepted ++ (replayed ++ (expired ++ kept))) c.in_ok-put_count.ensures.written
    (cut_behind _ (g.O.Sink.taken c.put_count-2.new.out) _ accepted
    (replayed ++ (expired ++ kept)) c.in_ok-put_count-2.ensures.written
    (cut_behind _ (g.O.Sink.taken c.put_count-3.new.out) _ replayed (expired ++ kept)
    c.in_ok-put_count-3.ensures.written
    (cut_behind _ (g.O.Sink.taken c.put_count-4.new.out) _ expired kept
    c.in_ok-put_count-4.ensures.written cut))))
    c.put_count-5.ensures.cut
