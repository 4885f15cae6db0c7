use Rattle.std.proofs.Common.{◌≡◌, refl}
use Rattle.base64.specs.GeneralPurpose.{encode_of}
use Rattle.base64.specs.Engines.{standard}
use Rattle.cred_armor.specs.CredentialText.{Frames, Spells}
use Rattle.cred_armor.proofs.Framing.{frames_unique}
use Rattle.cred_armor.proofs.Spelling.{not_encoded, spells_unique}
use Rattle.cred_armor.proofs.unarmoring.unarmor.Goals as goal

pub returns-in_default-clause-unspelled : goal.returns-in_default-clause-unspelled
returns-in_default-clause-unspelled c =
    λ refused body spells. c.in_default.ensures.none (encode_of standard body) spells.armored

pub returns-in-Err-DecodeError-clause-unspelled : goal.returns-in-Err-DecodeError-clause-unspelled
returns-in-Err-DecodeError-clause-unspelled c =
    λ refused body spells.
    let inside_is : c.in-Some.inside.now ≡ encode_of standard body =
    frames_unique c.args.text.now c.in-Some.inside.now (encode_of standard body) c.in-Some.ensures.found spells.armored in
    not_encoded c.in-Some.inside.now body c.in-Err-DecodeError.field-0-0 (rw c.in-Err-DecodeError.field-0-is at c.in-Err-DecodeError.ensures.err) spells.bytes inside_is

pub returns-in_default-clause-read : goal.returns-in_default-clause-read
returns-in_default-clause-read c = λ body spells. absurd (returns-in_default-clause-unspelled c refl body spells)

pub returns-in-Err-DecodeError-clause-read : goal.returns-in-Err-DecodeError-clause-read
returns-in-Err-DecodeError-clause-read c =
    λ body spells. absurd (returns-in-Err-DecodeError-clause-unspelled c refl body spells)

pub returns-in-Ok-clause-read : goal.returns-in-Ok-clause-read
returns-in-Ok-clause-read c =
    λ body spells.
    let is_armor : Frames c.args.text.now (encode_of standard c.in-Ok.body.items) =
    rw (c.in-Ok.ensures.exact (refl, refl)) at c.in-Some.ensures.found in
    let found : Spells c.args.text.now c.in-Ok.body.items = record { bytes = c.in-Ok.ensures.bytes; armored = is_armor } in
    spells_unique c.args.text.now c.in-Ok.body.items body found spells
