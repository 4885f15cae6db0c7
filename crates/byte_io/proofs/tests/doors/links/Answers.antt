use Rattle.std.proofs.Common.{refl}
use Rattle.std.proofs.lemmas.List.Elements.{All-push}
use Rattle.byte_io.specs.MemDoor.{HasNoFault}
use Rattle.byte_io.proofs.tests.doors.links.Goals as goal

pub loop-text-preserved : goal.loop-text-preserved
loop-text-preserved c =
    let fresh : HasNoFault c.new-in-loop-text.result = rw c.new-in-loop-text.ensures (refl, refl) in
    rw c.in_ok-push.ensures.items (All-push HasNoFault _ _ c.loop-text.invariant fresh)
