use Rattle.std.proofs.Common.{◌≡◌, List, ℕ, take, drop, take-append-drop, sym, subst, refl}
use Rattle.base64.specs.GeneralPurpose.{IsBytes, encode_of}
use Rattle.base64.specs.Engines.{standard}
use Rattle.base64.proofs.EngineFacts.{decode_of_strict, front_bytes}
use Rattle.cred_armor.specs.CredentialText.{Frames, Spells}
use Rattle.cred_armor.proofs.Framing.{frames_unique}
use Rattle.cred_armor.proofs.Spelling.{not_encoded}
use Rattle.cred_armor.proofs.unarmoring.unarmor_in.Goals as goal

pub returns-in_default-clause-unspelled : goal.returns-in_default-clause-unspelled
returns-in_default-clause-unspelled c =
    λ body spells. c.in_default.ensures.none (encode_of standard body) spells.armored

pub returns-in-Ok-clause-spelled : goal.returns-in-Ok-clause-spelled
returns-in-Ok-clause-spelled c =
    let front : List ℕ = take c.in-Ok.size c.decode_slice_unchecked.new.output in
    let bytes : IsBytes front =
    front_bytes front (drop c.in-Ok.size c.decode_slice_unchecked.new.output)
    (subst IsBytes (sym (take-append-drop c.in-Ok.size c.decode_slice_unchecked.new.output)) c.are_bytes-in-Ok.ensures) in
    let is : c.in-Some.inside.now ≡ encode_of standard front =
    decode_of_strict standard c.in-Some.inside.now front (refl, refl) c.are_bytes.ensures c.in-Ok.ensures.ok.0 in
    record { bytes = bytes; armored = rw is at c.in-Some.ensures.found }

pub returns-in-Err-clause-unspelled : goal.returns-in-Err-clause-unspelled
returns-in-Err-clause-unspelled c =
    λ body spells.
    let inside_is : c.in-Some.inside.now ≡ encode_of standard body =
    frames_unique c.args.text.now c.in-Some.inside.now (encode_of standard body) c.in-Some.ensures.found spells.armored in
    not_encoded c.in-Some.inside.now body c.in-Err.field-0 c.in-Err.ensures.err spells.bytes inside_is
