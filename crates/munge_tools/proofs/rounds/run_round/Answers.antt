use Rattle.std.proofs.Common.{refl}
use Rattle.munge_tools.specs.RemungeAskedTold.{remunge_told}
use Rattle.munge_tools.specs.Wire.{seen_by}
use Rattle.munge_tools.proofs.RoundLemmas.{round_made, round_opened, round_stopped, round_unmade}
use Rattle.munge_tools.proofs.rounds.run_round.Goals as goal

pub returns-then-made-ne0-clause-ran : goal.returns-then-made-ne0-clause-ran
returns-then-made-ne0-clause-ran g c =
    round_unmade (remunge_told c.args.asked.now) _ _ c.args.totals.now _ c.in-Ok.made c.in-Ok.ensures.made c.if-made-ne0.true refl

pub returns-then-not-asked-clause-ran : goal.returns-then-not-asked-clause-ran
returns-then-not-asked-clause-ran g c =
    round_made (remunge_told c.args.asked.now) _ _ c.args.totals.now _ c.in-Ok.made c.in-Ok.ensures.made c.if-made-ne0.false c.if-not-asked.true refl

pub returns-in-Ok-ask_to_open-clause-ran : goal.returns-in-Ok-ask_to_open-clause-ran
returns-in-Ok-ask_to_open-clause-ran g c =
    let seen = seen_by g.W.Wire.dialled g.W.Wire.replies g.W.Source.left g.W.Sink.taken g.W.Source.ends g.W.Wire.dial_faults g.W.Source.read_faults g.W.Sink.write_faults in
    round_opened (remunge_told c.args.asked.now) (seen c.args.wire.now) (seen c.make.new.wire) (seen c.ask_to_open.new.wire) c.args.totals.now _
    c.count_opened.new.totals c.in-Ok.made c.in-Ok-ask_to_open.said c.in-Ok.ensures.made c.if-made-ne0.false c.if-not-asked.false
    c.in-Ok-ask_to_open.ensures.fits c.in-Ok-ask_to_open.ensures.heard refl c.count_opened.ensures.opened c.count_opened.ensures.unopened

pub returns-in-Err-ask_to_open-clause-stopped : goal.returns-in-Err-ask_to_open-clause-stopped
returns-in-Err-ask_to_open-clause-stopped g c =
    let seen = seen_by g.W.Wire.dialled g.W.Wire.replies g.W.Source.left g.W.Sink.taken g.W.Source.ends g.W.Wire.dial_faults g.W.Source.read_faults g.W.Sink.write_faults in
    round_stopped (remunge_told c.args.asked.now) (seen c.args.wire.now) (seen c.make.new.wire) (seen c.ask_to_open.new.wire) c.in-Ok.made
    c.in-Err-ask_to_open.why c.in-Ok.ensures.made c.if-made-ne0.false c.if-not-asked.false c.in-Err-ask_to_open.ensures.unheard
