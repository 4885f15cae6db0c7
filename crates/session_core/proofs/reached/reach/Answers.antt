use Rattle.std.proofs.Common.{refl, subst, sym}
use Rattle.decode_rules.specs.Terms.{terms_of}
use Rattle.wire_msg.specs.declared.message.Message.TheVariants.{DecodeRequest, EncodeRequest, Stop}
use Rattle.session_core.specs.Reached.{Reaches}
use Rattle.session_core.specs.Service.{service_of}
use Rattle.session_core.proofs.ServeLemmas.{reaches_none}
use Rattle.session_core.proofs.reached.reach.Goals as goal

pub returns-in-EncodeRequest-clause-reaches : goal.returns-in-EncodeRequest-clause-reaches
returns-in-EncodeRequest-clause-reaches g c = λ files is.
    reaches_none (service_of (terms_of c.args.world.now c.args.who files) c.args.dice.now.seed c.args.pass.now.number) c.args.pass.now
    (EncodeRequest c.in-EncodeRequest.ask) c.args.request.now c.reach_seal.result c.in-EncodeRequest.is c.reach_seal.ensures.nowhere c.reach_seal.ensures.not_worn
    (c.reach_seal.ensures.comes files c.args.pass.now.number is)

pub returns-in-DecodeRequest-clause-reaches : goal.returns-in-DecodeRequest-clause-reaches
returns-in-DecodeRequest-clause-reaches g c = λ files is.
    subst
    (λ request. Reaches (service_of (terms_of c.args.world.now c.args.who files) c.args.dice.now.seed c.args.pass.now.number)
    c.args.pass.now c.reach_gate.new.pass request c.reach_gate.result c.reach_gate.result.place)
    (sym c.in-DecodeRequest.is) (c.reach_gate.ensures.reaches files c.args.dice.now.seed is)

pub returns-in-Stop-clause-reaches : goal.returns-in-Stop-clause-reaches
returns-in-Stop-clause-reaches g c = λ files is.
    let service = service_of (terms_of c.args.world.now c.args.who files) c.args.dice.now.seed c.args.pass.now.number in
    reaches_none service c.args.pass.now Stop c.args.request.now c.reach_stop.result c.in-Stop.is c.reach_stop.ensures.nowhere c.reach_stop.ensures.not_worn
    (c.reach_stop.ensures.comes service refl)
