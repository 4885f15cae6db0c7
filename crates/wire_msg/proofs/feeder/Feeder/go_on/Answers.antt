use Rattle.std.proofs.Common.{arith, ◌<◌, length, ap, sym, ◌∙◌}
use Rattle.wire_msg.proofs.Frames.{unfinished_laid}
use Rattle.wire_msg.proofs.Going.{Went, went_on, went_more, went_within}
use Rattle.wire_msg.specs.Feeding.{Feeding}
use Rattle.wire_msg.specs.FrameHead.{side_of_kind}
use Rattle.wire_msg.specs.Head.{IsHead}
use Rattle.wire_msg.proofs.feeder.Feeder.go_on.Goals as goal

pub returns-then-missing-gt0-clause-answers : goal.returns-then-missing-gt0-clause-answers
returns-then-missing-gt0-clause-answers c =
    let went : Went c.args.begun.kind c.args.begun.size c.args.begun.body c.take.new.self.kind c.take.new.self.size c.take.new.self.body c.args.piece.now c.args.taken c.min-count.result c.missing.result c.missing-2.result =
    record {
      kind_is = c.take.ensures.kind;
      size_is = c.take.ensures.size;
      body_is = c.take.ensures.body;
      count_is = c.min-count.ensures;
      missed = c.missing.ensures.missing;
      misses = c.missing-2.ensures.missing;
      within = c.requires.taken;
    } in
    let head : IsHead c.args.self.now.side c.take.new.self.kind c.take.new.self.size =
    rw (c.take.ensures.kind, c.take.ensures.size) c.requires.head in
    let counted = c.missing-2.ensures.missing in
    let more = c.if-missing-gt0.true in
    let fewer : length c.take.new.self.body < c.take.new.self.size = omega arith in
    λ unfinished same.
    rw (← went_more c.args.begun.kind c.args.begun.size c.args.begun.body c.take.new.self.kind c.take.new.self.size c.take.new.self.body c.args.piece.now c.args.taken c.min-count.result c.missing.result c.missing-2.result went more unfinished same)
    (unfinished_laid c.args.self.now.side c.take.new.self.kind c.take.new.self.size c.take.new.self.body head fewer c.missing-2.ensures.bytes)

pub returns-then-missing-gt0-clause-leaves : goal.returns-then-missing-gt0-clause-leaves
returns-then-missing-gt0-clause-leaves c =
    let went : Went c.args.begun.kind c.args.begun.size c.args.begun.body c.take.new.self.kind c.take.new.self.size c.take.new.self.body c.args.piece.now c.args.taken c.min-count.result c.missing.result c.missing-2.result =
    record {
      kind_is = c.take.ensures.kind;
      size_is = c.take.ensures.size;
      body_is = c.take.ensures.body;
      count_is = c.min-count.ensures;
      missed = c.missing.ensures.missing;
      misses = c.missing-2.ensures.missing;
      within = c.requires.taken;
    } in
    λ unfinished same. (
      went_more c.args.begun.kind c.args.begun.size c.args.begun.body c.take.new.self.kind c.take.new.self.size c.take.new.self.body c.args.piece.now c.args.taken c.min-count.result c.missing.result c.missing-2.result went c.if-missing-gt0.true unfinished same,
      ap (λ (f : Feeding). f.begins) c.self.view_is,
    )

pub returns-clause-answers : goal.returns-clause-answers
returns-clause-answers c =
    let went : Went c.args.begun.kind c.args.begun.size c.args.begun.body c.take.new.self.kind c.take.new.self.size c.take.new.self.body c.args.piece.now c.args.taken c.min-count.result c.missing.result c.missing-2.result =
    record {
      kind_is = c.take.ensures.kind;
      size_is = c.take.ensures.size;
      body_is = c.take.ensures.body;
      count_is = c.min-count.ensures;
      missed = c.missing.ensures.missing;
      misses = c.missing-2.ensures.missing;
      within = c.requires.taken;
    } in
    let side = ap side_of_kind c.take.ensures.kind ∙ c.requires.head.sent_by in
    λ unfinished same.
    let whole = went_on c.args.begun.kind c.args.begun.size c.args.begun.body c.take.new.self.kind c.take.new.self.size c.take.new.self.body c.args.piece.now c.args.taken c.min-count.result c.missing.result c.missing-2.result went unfinished same in
    (rw (← side) c.finish.ensures.is_message, went_within c.args.begun.kind c.args.begun.size c.args.begun.body c.take.new.self.kind c.take.new.self.size c.take.new.self.body c.args.piece.now c.args.taken c.min-count.result c.missing.result c.missing-2.result went, sym whole ∙ sym c.finish.ensures.frame)
