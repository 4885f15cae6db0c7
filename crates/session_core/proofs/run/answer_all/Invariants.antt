use Rattle.std.proofs.Common.{◌≡◌, ◌*◌, ◌≤◌, List, []}
use Rattle.munge_types.specs.StandsFor.{Stands}
use Rattle.munge_types.specs.declared.history.Event.{Event}
use Rattle.decode_rules.specs.Terms.{IsMadeOf, WorldFiles}
use Rattle.wire_msg.specs.declared.kind.Side.TheVariants.{Requests}
use Rattle.session_core.specs.AllLive.{AllLive}
use Rattle.session_core.specs.RunSoFar.{RunSoFar}
use Rattle.session_core.specs.Seed.{place_of, seed_of}
use Rattle.session_core.specs.Session.{session_of}
use Rattle.session_core.specs.Things.{input_of, outside_of, things_of}
use Rattle.session_core.specs.Turn.{stage_of}
use Rattle.session_core.proofs.run.answer_all.Given as goal

-- what was answered so far, for each key and base history, and that nothing has failed
abbrev pub invariant-requests : goal.invariant-requests
invariant-requests g l = record {
  so_far : (files : WorldFiles) (base : List Event) → IsMadeOf l.world files
      → Stands (g.R.Replay.remembered l.initial.replay) base
      → RunSoFar (session_of l.world l.who files (seed_of l.initial.dice) base)
      (things_of (outside_of (input_of (g.I.Source.left l.initial.input) (g.I.Source.ends l.initial.input)) (g.O.Sink.taken l.initial.out) (g.C.Clock.readings l.initial.clock)) (g.R.Replay.remembered l.initial.replay))
      (things_of (outside_of (input_of (g.I.Source.left l.input) (g.I.Source.ends l.input)) (g.O.Sink.taken l.out) (g.C.Clock.readings l.clock)) (g.R.Replay.remembered l.replay))
      l.answered l.feeder.begins (stage_of l.entries (place_of l.dice));
  same_seed : seed_of l.dice ≡ (seed_of l.initial.dice);
  live : AllLive (g.R.Replay.remembered l.initial.replay) → AllLive (g.R.Replay.remembered l.replay);
  side : l.feeder.side ≡ Requests;
  between : l.feeder.unfinished ≡ [];
  begins_bound : l.feeder.begins ≤ 2097159 * l.answered;
  entries_bound : l.entries ≤ 2 * l.answered;
  ends_kept : g.I.Source.ends l.input ≡ g.I.Source.ends l.initial.input;
  reads_sound : g.I.Source.read_faults l.input ≡ g.I.Source.read_faults l.initial.input;
  writes_sound : g.O.Sink.write_faults l.out ≡ g.O.Sink.write_faults l.initial.out;
  clock_sound : g.C.Clock.clock_faults l.clock ≡ g.C.Clock.clock_faults l.initial.clock;
}
