use Rattle.std.proofs.Common.{◌-◌, arith}
use Rattle.session_core.proofs.RequestLemmas.{reads_on_more, stops_more}
use Rattle.session_core.specs.declared.request.Progress.TheVariants.{Whole}
use Rattle.session_core.specs.Things.{input_of}
use Rattle.session_core.proofs.request.read_body.Goals as goal

pub returns-in-Ok-Whole-clause-read : goal.returns-in-Ok-Whole-clause-read
returns-in-Ok-Whole-clause-read g c =
    let before = input_of (g.I.Source.left c.args.input.now) (g.I.Source.ends c.args.input.now) in
    let between = input_of (g.I.Source.left c.pieces.input) (g.I.Source.ends c.pieces.input) in
    let after = input_of (g.I.Source.left c.read_piece.new.input) (g.I.Source.ends c.read_piece.new.input) in
    reads_on_more before between after c.args.feeder.now c.pieces.feeder c.read_piece.new.feeder (Whole c.in-Ok-Whole.request)
    c.pieces.invariant.begins c.pieces.invariant.read (rw c.in-Ok-Whole.field-0-is at c.in-Ok-Whole.ensures.read)

pub returns-in-Err-clause-none : goal.returns-in-Err-clause-none
returns-in-Err-clause-none g c =
    let before = input_of (g.I.Source.left c.args.input.now) (g.I.Source.ends c.args.input.now) in
    let between = input_of (g.I.Source.left c.pieces.input) (g.I.Source.ends c.pieces.input) in
    let after = input_of (g.I.Source.left c.read_piece.new.input) (g.I.Source.ends c.read_piece.new.input) in
    rw c.behind.ensures
    (stops_more c.in-Err.cause before between after c.args.feeder.now.unfinished c.pieces.feeder.unfinished (c.args.wanted - c.pieces.wanted)
    (let less = c.pieces.invariant.less in omega (arith, less, c.pieces.invariant.grown))
    c.pieces.invariant.ends c.pieces.invariant.read c.in-Err.ensures.none)
