use Rattle.std.proofs.Common.{◌≡◌, ◌-◌, ◌≤◌, length}
use Rattle.std.specs.Io.KnownBytes.{Consumes}
use Rattle.wire_msg.specs.Frame.{IsUnfinished}
use Rattle.wire_msg.specs.declared.kind.Side.TheVariants.{Replies}
use Rattle.munge_tools.proofs.reply.read_reply.Given as goal

-- what was read is what the feeder keeps, a part of a reply
abbrev pub invariant-pieces : goal.invariant-pieces
invariant-pieces g l =
    record {
      side : l.feeder.side ≡ Replies;
      unfinished : IsUnfinished Replies l.feeder.unfinished;
      room : 1 ≤ length l.buffer;
      read : Consumes (g.I.Source.left l.initial.input) (g.I.Source.left l.input) l.feeder.unfinished;
      ends : g.I.Source.ends l.input ≡ g.I.Source.ends l.initial.input;
      faults : g.I.Source.read_faults l.input ≡ g.I.Source.read_faults l.initial.input;
      beside : g.I.Source.beside_reads l.input ≡ g.I.Source.beside_reads l.initial.input;
    }

abbrev pub decreases-pieces : goal.decreases-pieces
decreases-pieces g l = 2097159 - length l.feeder.unfinished
