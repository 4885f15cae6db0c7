use Rattle.std.proofs.Common.{refl, ap, length, arith}
use Rattle.std.proofs.lemmas.List.{length-append}
use Rattle.cred_armor.specs.CredentialText.{armor_of}
use Rattle.cred_seal.specs.Asked.{asked_of}
use Rattle.cred_seal.proofs.RoundTrips.{spelled_in_spaces, opens_to}
use Rattle.cred_seal.proofs.SealedTexts.{armor_behind, sealed_as}
use Rattle.cred_seal.proofs.sealing.sealed_room.Goals as goal

pub returns-clause-sealed : goal.returns-clause-sealed
returns-clause-sealed c =
    λ key of.
    sealed_as key c.args.settings.now (asked_of c.args.request.now) c.args.who c.args.moment c.args.salt c.args.iv _
    c.sealed_body-text.result.taken c.sealed_body-text.result.taken c.args.algorithms.0 c.args.algorithms.1 _
    c.requires.cipher c.requires.kind (rw c.stored_ttl.ensures refl) (c.sealed_body-text.ensures.body key of)
    (armor_behind c.args.out.bytes _ _ _ c.sealed_body-text.ensures.base c.finish.ensures.armored) refl

pub returns-clause-size : goal.returns-clause-size
returns-clause-size c =
    omega (
      arith,
      ap length c.finish.ensures.armored,
      length-append c.sealed_body-text.result.base (armor_of c.sealed_body-text.result.taken),
      ap length c.sealed_body-text.ensures.base,
      c.armor_size.ensures c.sealed_body-text.result.taken,
      c.sealed_body-text.ensures.size,
    )

pub returns-clause-opens : goal.returns-clause-opens
returns-clause-opens c =
    λ key of before after in_front behind.
    opens_to key _ c.sealed_body-text.result.taken _ _ _ c.args.algorithms.0 c.args.algorithms.1 (rw c.stored_ttl.ensures refl)
    c.sealed_body-text.ensures.content (c.sealed_body-text.ensures.body key of) c.sealed_body-text.ensures.unbroken
    (spelled_in_spaces _ c.sealed_body-text.result.taken c.sealed_body-text.result.taken before after
    (armor_behind c.args.out.bytes _ _ _ c.sealed_body-text.ensures.base c.finish.ensures.armored) refl
    (c.armor_spells_its_body.ensures before c.sealed_body-text.result.taken after in_front c.finish.ensures.bytes behind))
