use Rattle.std.proofs.Common.{arith, ◌≡◌, ◌≤◌, ◌∙◌, ap, length, inl, inr}
use Rattle.std.specs.Int.{w64, from_be_bytes}
use Rattle.wire_msg.proofs.Fields.{laid_refusal, laid_showing, number8_in}
use Rattle.wire_msg.proofs.reading.said_in.Goals as goal
use Rattle.wire_msg.proofs.reading.said_in.Goals.{then-fields-eq-REPLY_SIZE, else-fields-eq-REPLY_SIZE}

pub returns-clause-body : goal.returns-clause-body
returns-clause-body c =
    let place : c.from_be_bytes-place.result ≡ number8_in c.args.fields.now 2 =
    c.from_be_bytes-place.ensures ∙ ap (from_be_bytes w64) c.bytes_at.ensures in
    elim c.if-fields-eq-REPLY_SIZE.branch [
      | then-fields-eq-REPLY_SIZE w ↦
          rw w.content-is
          (laid_refusal c.args.fields.now c.args.payload c.from_be_bytes-place.result c.requires.size w.if-fields-eq-REPLY_SIZE.true
          (λ i. omega (arith, c.type_inv.fields i)) place)
      | else-fields-eq-REPLY_SIZE w ↦
          let long : 10 ≤ length c.args.fields.now =
          elim c.requires.size [ inl both ↦ absurd (w.if-fields-eq-REPLY_SIZE.false both.0) | inr showing ↦ omega arith ] in
          rw (w.content-is, w.content_in.ensures.payload)
          (laid_showing c.args.fields.now c.args.payload _ c.from_be_bytes-place.result long
          (λ i. omega (arith, c.type_inv.fields i)) place w.content_in.ensures.fields)
    ]
