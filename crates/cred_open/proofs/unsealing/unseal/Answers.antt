use Rattle.std.proofs.Common.{◌≡◌, ℕ, List, take, sym, ◌∙◌, ap}
use Rattle.std.proofs.Math.Seq.{drop-append_seam}
use Rattle.std.proofs.lemmas.Result.{err_from_is_err_and}
use Rattle.std.proofs.lemmas.Bool.{both_ways}
use Rattle.cred_open.specs.OpeningRules.{Refuses}
use Rattle.cred_open.proofs.Bodies.{BodyLaws}
use Rattle.cred_open.proofs.OpensOrRefuses.{pieces, refuses_unpadded, refuses_forged, decrypted_as, unseals, front_bytes}
use Rattle.cred_open.proofs.unsealing.unseal.Goals as goal

pub returns-in_err-outer-clause-refused : goal.returns-in_err-outer-clause-refused
returns-in_err-outer-clause-refused c =
    λ key text of spells.
    let failed = err_from_is_err_and c.from_residual.result c.from_residual.ensures.1 in
    rw (failed.1, failed.2) (Refuses.outside c.args.body.now spells c.in_err-outer.ensures.broken)

pub returns-in_default-clause-refused : goal.returns-in_default-clause-refused
returns-in_default-clause-refused c =
    λ key text of spells.
    let laws : BodyLaws = record {
      mac_sizes = c.mac_has_its_size.ensures;
      parts_once = c.body_has_its_parts_once.ensures;
      inner_once = c.sealed_part_has_one_inner_part.ensures;
    } in
    let outer = c.in_ok-outer.outer in
    let cut = pieces outer.cipher outer.kind outer.iv.now outer.mac.now outer.rest.now c.args.body.now outer.front.now
    c.split_at_mut-outside.result.0.now c.split_at.result.0.now c.split_at-2.result.1.now c.split_at.result.1.now _
    c.in_ok-outer.ensures.parts c.in_ok-outer.ensures.front
    c.split_at_mut-outside.ensures.front c.split_at_mut-outside.ensures.back
    c.split_at.ensures.front c.split_at.ensures.back c.split_at-2.ensures.back in
    refuses_unpadded laws key text c.args.body.now outer.iv.now outer.mac.now outer.rest.now outer.cipher outer.kind spells
    c.in_ok-outer.ensures.unbroken c.in_ok-outer.ensures.parts
    (rw (cut.vector_is, cut.mac_is, cut.rest_is) at (c.in_default.ensures.none key of))

pub returns-else-genuine-clause-refused : goal.returns-else-genuine-clause-refused
returns-else-genuine-clause-refused c =
    λ key text of spells.
    let laws : BodyLaws = record {
      mac_sizes = c.mac_has_its_size.ensures;
      parts_once = c.body_has_its_parts_once.ensures;
      inner_once = c.sealed_part_has_one_inner_part.ensures;
    } in
    let outer = c.in_ok-outer.outer in
    let cut = pieces outer.cipher outer.kind outer.iv.now outer.mac.now outer.rest.now c.args.body.now outer.front.now
    c.split_at_mut-outside.result.0.now c.split_at.result.0.now c.split_at-2.result.1.now c.split_at.result.1.now _
    c.in_ok-outer.ensures.parts c.in_ok-outer.ensures.front
    c.split_at_mut-outside.ensures.front c.split_at_mut-outside.ensures.back
    c.split_at.ensures.front c.split_at.ensures.back c.split_at-2.ensures.back in
    let plain : List ℕ = take c.in-Some.size c.decrypt-decrypted.new.sealed in
    let size_is : c.unwrap_or.result ≡ c.in-Some.size = rw c.in-Some.is at c.unwrap_or.ensures in
    let made = decrypted_as key c.args.body.now outer.iv.now outer.mac.now outer.rest.now c.split_at.result.0.now c.split_at-2.result.1.now
    c.split_at.result.1.now _ c.args.subkeys.now.mac plain (take c.unwrap_or.result c.decrypt-decrypted.new.sealed) c.mac_of-made.result
    outer.cipher outer.kind c.in_ok-outer.ensures.unbroken c.in_ok-outer.ensures.parts cut c.decrypt-decrypted.ensures.vector_bytes
    (front_bytes c.in-Some.size c.decrypt-decrypted.new.sealed c.decrypt-decrypted.ensures.bytes)
    (c.in-Some.ensures.plain key of) c.mac_of-made.ensures
    (ap (λ n. take n c.decrypt-decrypted.new.sealed) size_is) of.mac_is in
    refuses_forged laws key text c.args.body.now outer.iv.now outer.mac.now outer.rest.now plain c.mac_of-made.result outer.cipher outer.kind spells made
    (λ same. both_ways c.equal-genuine.result c.if-genuine.false (c.equal-genuine.ensures.1 (same ∙ sym cut.mac_is)))

pub returns-then-genuine-clause-unsealed : goal.returns-then-genuine-clause-unsealed
returns-then-genuine-clause-unsealed c =
    λ key of.
    let outer = c.in_ok-outer.outer in
    let cut = pieces outer.cipher outer.kind outer.iv.now outer.mac.now outer.rest.now c.args.body.now outer.front.now
    c.split_at_mut-outside.result.0.now c.split_at.result.0.now c.split_at-2.result.1.now c.split_at.result.1.now _
    c.in_ok-outer.ensures.parts c.in_ok-outer.ensures.front
    c.split_at_mut-outside.ensures.front c.split_at_mut-outside.ensures.back
    c.split_at.ensures.front c.split_at.ensures.back c.split_at-2.ensures.back in
    let plain : List ℕ = take c.in-Some.size c.decrypt-decrypted.new.sealed in
    let size_is : c.unwrap_or.result ≡ c.in-Some.size = rw c.in-Some.is at c.unwrap_or.ensures in
    let made = decrypted_as key c.args.body.now outer.iv.now outer.mac.now outer.rest.now c.split_at.result.0.now c.split_at-2.result.1.now
    c.split_at.result.1.now _ c.args.subkeys.now.mac plain (take c.unwrap_or.result c.decrypt-decrypted.new.sealed) c.mac_of-made.result
    outer.cipher outer.kind c.in_ok-outer.ensures.unbroken c.in_ok-outer.ensures.parts cut c.decrypt-decrypted.ensures.vector_bytes
    (front_bytes c.in-Some.size c.decrypt-decrypted.new.sealed c.decrypt-decrypted.ensures.bytes)
    (c.in-Some.ensures.plain key of) c.mac_of-made.ensures
    (ap (λ n. take n c.decrypt-decrypted.new.sealed) size_is) of.mac_is in
    rw (sym c.split_at_mut-outside.ensures.front_len, drop-append_seam c.split_at_mut-outside.result.0.now c.decrypt-decrypted.new.sealed)
    (unseals key c.args.body.now outer.iv.now outer.mac.now outer.rest.now plain c.mac_of-made.result outer.cipher outer.kind made
    (c.equal-genuine.ensures.0 c.if-genuine.true ∙ cut.mac_is))
