use Rattle.std.proofs.Common.{ℕ, List, ◌+◌, length, take, drop, arith}
use Rattle.cred_inner.specs.Inner.{content_of}
use Rattle.cred_inner.specs.InnerPart.{inner_part}
use Rattle.cred_outer.specs.OuterPart.{vector_size}
use Rattle.cred_seal.proofs.Bodies.{assembled, sealed_size, seals_body, front_bytes}
use Rattle.cred_seal.proofs.body.sealed_body.Goals as goal

pub returns-clause-body : goal.returns-clause-body
returns-clause-body c =
    λ key of.
    let inner : List ℕ = inner_part (content_of c.args.inner.now) in
    let is = assembled c.args.cipher c.args.kind c.args.iv.now c.inner_mac-mac.result c.new-body.result.taken c.put_front.new.to.taken
    c.put_sealed.new.to.taken (41 + length c.args.inner.now.payload.now) (omega (arith, c.told-iv)) c.inner_mac-mac.ensures.size
    c.new-body.ensures.taken (rw c.bytes.ensures at c.put_front.ensures.appended) c.put_sealed.ensures.front c.put_sealed.ensures.size in
    seals_body key c.args.cipher c.args.kind (take (vector_size c.args.cipher) c.args.iv.now) c.inner_mac-mac.result
    (drop (length c.put_front.new.to.taken) c.put_sealed.new.to.taken) inner c.put_sealed.new.to.taken c.args.subkeys.now.mac
    is.parts (front_bytes (vector_size c.args.cipher) c.args.iv.now (λ i. c.fits-iv i))
    (c.inner_part_is_bytes.ensures (content_of c.args.inner.now) c.inner_mac-mac.ensures.content) c.inner_mac-mac.ensures.mac of.mac_is
    (rw c.bytes-2.ensures at (c.put_sealed.ensures.sealed key of))

pub returns-clause-unbroken : goal.returns-clause-unbroken
returns-clause-unbroken c =
    let is = assembled c.args.cipher c.args.kind c.args.iv.now c.inner_mac-mac.result c.new-body.result.taken c.put_front.new.to.taken
    c.put_sealed.new.to.taken (41 + length c.args.inner.now.payload.now) (omega (arith, c.told-iv)) c.inner_mac-mac.ensures.size
    c.new-body.ensures.taken (rw c.bytes.ensures at c.put_front.ensures.appended) c.put_sealed.ensures.front c.put_sealed.ensures.size in
    c.parts_break_no_rule.ensures c.args.cipher c.args.kind (take (vector_size c.args.cipher) c.args.iv.now) c.inner_mac-mac.result
    (drop (length c.put_front.new.to.taken) c.put_sealed.new.to.taken) c.put_sealed.new.to.taken is.parts c.requires.keyed
    (sealed_size c.args.cipher (41 + length c.args.inner.now.payload.now) _ is.rest)
