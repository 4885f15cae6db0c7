use Rattle.std.proofs.Common.{refl}
use Rattle.wire_msg.specs.declared.message.Message.TheVariants.{DecodeRequest}
use Rattle.session_core.specs.Seed.{place_of, seed_of}
use Rattle.session_core.specs.Session.{session_of}
use Rattle.session_core.proofs.AnswerLemmas.{answered_encode, answered_decode, answered_stop, left_begun}
use Rattle.session_core.proofs.answer.make_answer.Goals as goal

pub returns-in-Ok-encode-clause-answered : goal.returns-in-Ok-encode-clause-answered
returns-in-Ok-encode-clause-answered g c = λ files base own is stands at.
    answered_encode (session_of c.args.world.now c.args.who files (seed_of c.args.dice.now) base) own c.args.request.now c.in-EncodeRequest.ask c.in-Ok.moment
    c.in-Ok-encode.reply.items _ _ _ c.args.entries (place_of c.args.dice.now) (place_of c.encode.new.dice)
    c.in-EncodeRequest.is at stands c.in-Ok.ensures.first (c.in-Ok-encode.ensures.encoded files is)

pub returns-in-Ok-decode-clause-answered : goal.returns-in-Ok-decode-clause-answered
returns-in-Ok-decode-clause-answered g c = λ files base own is stands at.
    answered_decode (session_of c.args.world.now c.args.who files (seed_of c.args.dice.now) base) own c.args.request.now c.in-DecodeRequest.text c.in-Ok-now.moment
    c.in-Ok-decode.answer.reply.items _ _ _ c.in-Ok-decode.answer.entries c.args.entries (place_of c.args.dice.now)
    c.in-DecodeRequest.is at c.in-Ok-now.ensures.first
    (rw c.bytes.ensures.same at (c.in-Ok-decode.ensures.decoded files (seed_of c.args.dice.now) base own.events is stands at.entries_are))

pub returns-in-Err-decode-clause-unanswered : goal.returns-in-Err-decode-clause-unanswered
returns-in-Err-decode-clause-unanswered g c = λ files base own stands.
    left_begun (session_of c.args.world.now c.args.who files (seed_of c.args.dice.now) base) own c.args.request.now (DecodeRequest c.in-DecodeRequest.text) c.in-Ok-now.moment
    _ _ _ c.in-DecodeRequest.is refl c.in-Ok-now.ensures.first (c.in-Err-decode.ensures.given_up base own stands)

pub returns-in-Ok-bye-clause-answered : goal.returns-in-Ok-bye-clause-answered
returns-in-Ok-bye-clause-answered g c = λ files base own is stands at.
    answered_stop (session_of c.args.world.now c.args.who files (seed_of c.args.dice.now) base) own c.args.request.now c.in-Ok-bye.reply.items
    _ _ _ c.in-Stop.is at stands c.in-Ok-bye.ensures
