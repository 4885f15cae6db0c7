use Rattle.std.proofs.Common.{◌+◌, ◌≤◌}
use Rattle.munge_tools.specs.RemungeAskedTold.{remunge_told}
use Rattle.munge_tools.specs.Rounds.{SoFar}
use Rattle.munge_tools.specs.Wire.{WireSound, seen_by}
use Rattle.munge_tools.proofs.rounds.run_rounds.Given as goal

-- so many rounds ran and are counted
abbrev pub invariant-rounds : goal.invariant-rounds
invariant-rounds g l =
    let seen = seen_by g.W.Wire.dialled g.W.Wire.replies g.W.Source.left g.W.Sink.taken g.W.Source.ends g.W.Wire.dial_faults g.W.Source.read_faults g.W.Sink.write_faults in
    record {
      so_far : SoFar (remunge_told l.asked) (seen l.initial.wire) (seen l.wire) l._done l.totals;
      sound : WireSound (seen l.initial.wire) (seen l.wire);
      encoded : l.totals.encoded ≤ l._done;
      decoded : l.totals.decoded ≤ l._done;
      failed : l.totals.failed ≤ l._done + l._done;
    }
