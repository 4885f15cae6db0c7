use Rattle.std.proofs.Common.{◌≡◌, ◌+◌, ◌≤◌, ◌++◌, length}
use Rattle.wire_msg.specs.declared.kind.Side.TheVariants.{Requests}
use Rattle.session_core.specs.Partial.{Wants}
use Rattle.session_core.specs.Reading.{Reads}
use Rattle.session_core.specs.Things.{input_of}
use Rattle.session_core.proofs.request.read_body.Given as goal

-- what was read stands behind what was kept before, and so much is still wanted
abbrev pub invariant-pieces : goal.invariant-pieces
invariant-pieces g l =
    record {
      side : l.feeder.side ≡ Requests;
      room : 1 ≤ length l.buffer;
      wants : Wants l.feeder.unfinished l.wanted;
      less : l.wanted ≤ l.initial.wanted;
      grown : length l.feeder.unfinished + l.wanted ≡ length l.initial.feeder.unfinished + l.initial.wanted;
      begins : l.feeder.begins ≡ l.initial.feeder.begins;
      read : Reads (input_of (g.I.Source.left l.initial.input) (g.I.Source.ends l.initial.input))
          (input_of (g.I.Source.left l.input) (g.I.Source.ends l.input))
          (λ bytes. l.feeder.unfinished ≡ l.initial.feeder.unfinished ++ bytes);
      faults : g.I.Source.read_faults l.input ≡ g.I.Source.read_faults l.initial.input;
      ends : g.I.Source.ends l.initial.input ≤ g.I.Source.ends l.input;
      ends_kept : g.I.Source.ends l.input ≡ g.I.Source.ends l.initial.input;
      beside : g.I.Source.beside_reads l.input ≡ g.I.Source.beside_reads l.initial.input;
    }

abbrev pub decreases-pieces : goal.decreases-pieces
decreases-pieces g l = l.wanted
