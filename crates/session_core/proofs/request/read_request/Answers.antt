use Rattle.std.proofs.Common.{ap, ◌∙◌, ◌<◌, ◌≤◌, ◌+◌, ◌^◌, arith}
use Rattle.wire_msg.specs.Feeding.{Feeding}
use Rattle.session_core.proofs.RequestLemmas.{body_none, body_read, head_unread, part_wants, wants_within}
use Rattle.session_core.specs.Partial.{Wants}
use Rattle.session_core.specs.Things.{input_of}
use Rattle.session_core.proofs.request.read_request.Goals as goal

pub behind-requires : goal.behind-requires
behind-requires g c =
    let between_is = c.requires.between in
    let before = input_of (g.I.Source.left c.args.input.now) (g.I.Source.ends c.args.input.now) in
    let between = input_of (g.I.Source.left c.read_head.new.input) (g.I.Source.ends c.read_head.new.input) in
    let wanted = wants_within c.read_head.new.feeder.unfinished c.in-Ok-Partial.wanted
    (part_wants before between c.args.feeder.now c.read_head.new.feeder c.in-Ok-Partial.wanted
    (rw c.in-Ok-Partial.field-0-is at c.in-Ok-Partial.ensures.read)) in
    let within = c.in-Err-read_body.ensures.within in
    omega (arith, wanted, within)

pub returns-in_default-clause-none : goal.returns-in_default-clause-none
returns-in_default-clause-none g c =
    let between_is = c.requires.between in
    let before = input_of (g.I.Source.left c.args.input.now) (g.I.Source.ends c.args.input.now) in
    let between = input_of (g.I.Source.left c.read_head.new.input) (g.I.Source.ends c.read_head.new.input) in
    head_unread before between c.args.feeder.now c.read_head.new.feeder c.in-Ok-Partial.wanted between_is
    (rw c.in-Ok-Partial.field-0-is at c.in-Ok-Partial.ensures.head) (rw c.in-Ok-Partial.field-0-is at c.in-Ok-Partial.ensures.read)

pub returns-in-Ok-read_body-clause-read : goal.returns-in-Ok-read_body-clause-read
returns-in-Ok-read_body-clause-read g c =
    let between_is = c.requires.between in
    let before = input_of (g.I.Source.left c.args.input.now) (g.I.Source.ends c.args.input.now) in
    let between = input_of (g.I.Source.left c.read_head.new.input) (g.I.Source.ends c.read_head.new.input) in
    let after = input_of (g.I.Source.left c.read_body.new.input) (g.I.Source.ends c.read_body.new.input) in
    body_read before between after c.args.feeder.now c.read_head.new.feeder c.read_body.new.feeder c.in-Ok-Partial.wanted c.in-Ok-read_body.request
    between_is (rw c.in-Ok-Partial.field-0-is at c.in-Ok-Partial.ensures.read) c.in-Ok-read_body.ensures.read

pub returns-in-Err-read_body-clause-none : goal.returns-in-Err-read_body-clause-none
returns-in-Err-read_body-clause-none g c =
    let between_is = c.requires.between in
    let before = input_of (g.I.Source.left c.args.input.now) (g.I.Source.ends c.args.input.now) in
    let between = input_of (g.I.Source.left c.read_head.new.input) (g.I.Source.ends c.read_head.new.input) in
    let after = input_of (g.I.Source.left c.read_body.new.input) (g.I.Source.ends c.read_body.new.input) in
    rw c.behind.ensures
    (body_none c.in-Err-read_body.cause before between after c.args.feeder.now c.read_head.new.feeder c.in-Ok-Partial.wanted between_is
    (rw c.in-Ok-Partial.field-0-is at c.in-Ok-Partial.ensures.head)
    c.in-Ok-Partial.ensures.ends_stay (rw c.in-Ok-Partial.field-0-is at c.in-Ok-Partial.ensures.read) c.in-Err-read_body.ensures.none)
