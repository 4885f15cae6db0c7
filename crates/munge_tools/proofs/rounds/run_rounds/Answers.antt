use Rattle.std.proofs.Common.{◌<◌, arith}
use Rattle.munge_tools.specs.RemungeAskedTold.{remunge_told}
use Rattle.munge_tools.specs.Wire.{seen_by}
use Rattle.munge_tools.proofs.RoundLemmas.{adds_some, one_more, sound_since, stops_there}
use Rattle.munge_tools.proofs.rounds.run_rounds.Goals as goal

pub returns-in-Err-clause-stopped : goal.returns-in-Err-clause-stopped
returns-in-Err-clause-stopped g c =
    let seen = seen_by g.W.Wire.dialled g.W.Wire.replies g.W.Source.left g.W.Sink.taken g.W.Source.ends g.W.Wire.dial_faults g.W.Source.read_faults g.W.Sink.write_faults in
    let fewer : c.rounds._done < c.args.asked.now.count = c.rounds-test.true in
    stops_there (remunge_told c.args.asked.now) (seen c.args.wire.now) (seen c.rounds.wire) (seen c.run_round.new.wire) c.rounds._done c.rounds.totals
    c.in-Err.why c.rounds.invariant.so_far fewer c.in-Err.ensures.stopped

pub rounds-preserved : goal.rounds-preserved
rounds-preserved g c =
    let seen = seen_by g.W.Wire.dialled g.W.Wire.replies g.W.Source.left g.W.Sink.taken g.W.Source.ends g.W.Wire.dial_faults g.W.Source.read_faults g.W.Sink.write_faults in
    let asked = remunge_told c.args.asked.now in
    let some = adds_some asked (seen c.rounds.wire) (seen c.run_round.new.wire) c.rounds.totals c.run_round.new.totals c.in-Ok.ensures.ran in
    let before = c.rounds.invariant in
    record {
      so_far = one_more asked (seen c.args.wire.now) (seen c.rounds.wire) (seen c.run_round.new.wire) c.rounds._done c.rounds.totals c.run_round.new.totals
          before.so_far c.in-Ok.ensures.ran;
      sound = sound_since (seen c.args.wire.now) (seen c.rounds.wire) (seen c.run_round.new.wire) before.sound (c.in-Ok.ensures.sound (λ same. cc));
      encoded = omega (arith, before.encoded, some.0);
      decoded = omega (arith, before.decoded, some.1);
      failed = omega (arith, before.failed, some.2);
    }
