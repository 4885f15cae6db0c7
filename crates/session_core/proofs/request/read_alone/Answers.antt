use Rattle.std.proofs.Common.{arith}
use Rattle.session_core.proofs.EndLemmas.{begins_next}
use Rattle.session_core.proofs.request.read_alone.Goals as goal

pub returns-in-Ok-clause-size : goal.returns-in-Ok-clause-size
returns-in-Ok-clause-size g c =
    let next = begins_next 0 c.read_request.new.feeder.begins c.in-Ok.request c.in-Ok.ensures.fits (omega arith) (rw c.new-feeder.ensures.begins at c.in-Ok.ensures.place) in
    omega (arith, c.place.ensures, next)
