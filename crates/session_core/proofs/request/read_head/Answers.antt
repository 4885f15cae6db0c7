use Rattle.std.proofs.Common.{◌<◌, length, take, arith}
use Rattle.std.proofs.lemmas.List.{length-take}
use Rattle.std.proofs.lemmas.Result.{IfErr-weaker}
use Rattle.session_core.proofs.RequestLemmas.{head_none, short_head}
use Rattle.session_core.specs.Partial.{HeadRefused}
use Rattle.session_core.specs.Reading.{ReadsNone}
use Rattle.session_core.specs.Things.{input_of}
use Rattle.session_core.proofs.request.read_head.Goals as goal

pub returns-in-Full-clause-none : goal.returns-in-Full-clause-none
returns-in-Full-clause-none g c =
    let before = input_of (g.I.Source.left c.args.input.now) (g.I.Source.ends c.args.input.now) in
    let after = input_of (g.I.Source.left c.read_full.new.input) (g.I.Source.ends c.read_full.new.input) in
    let head = c.read_full.new.into in
    IfErr-weaker c.take_head.result (λ cause. HeadRefused cause head) (λ cause. ReadsNone cause before after)
    (λ cause refused. head_none cause before after head c.read_full.auto.into c.in-Full.ensures.consumed refused) c.take_head.ensures.refused

pub returns-in-Failed-clause-none : goal.returns-in-Failed-clause-none
returns-in-Failed-clause-none g c =
    let read = take c.in-Failed.count c.read_full.new.into in
    let below : c.in-Failed.count < length c.read_full.new.into = c.in-Failed.ensures.below in
    record {
      bytes = read;
      consumed = c.in-Failed.ensures.consumed;
      holds = (simp length-take (omega arith), short_head read (simp length-take (omega arith)));
    }
