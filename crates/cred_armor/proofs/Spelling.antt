-- A text spells one body at most.
use Rattle.std.proofs.Common.{◌≡◌, ℕ, List, refl, sym, ap, ◌∙◌}
use Rattle.std.specs.declared.result.Result.{Result}
use Rattle.std.specs.declared.result.Result.TheVariants.{Ok, Err}
use Rattle.base64.specs.GeneralPurpose.{IsBytes, decode_of, encode_of}
use Rattle.base64.specs.Engines.{standard}
use Rattle.base64.specs.declared.decode.DecodeError.{DecodeError}
use Rattle.base64.proofs.EngineFacts.{decode_of-encode_of}
use Rattle.cred_armor.specs.CredentialText.{Spells}
use Rattle.cred_armor.proofs.Framing.{frames_unique}

-- the base64 of bytes is that of no others
encode_of_injective : (a b : List ℕ) → IsBytes a → IsBytes b → encode_of standard a ≡ encode_of standard b → a ≡ b
encode_of_injective a b bytes_a bytes_b same =
    let both : ◌≡◌ {A = Result (List ℕ) DecodeError} (Ok a) (Ok b) =
    sym (decode_of-encode_of standard a refl bytes_a)
    ∙ (ap (decode_of standard) same ∙ decode_of-encode_of standard b refl bytes_b) in
    cc both

pub spells_unique : (text a b : List ℕ) → Spells text a → Spells text b → a ≡ b
spells_unique text a b first second =
    encode_of_injective a b first.bytes second.bytes (frames_unique text _ _ first.armored second.armored)

err_not_ok : {A E : Type 0} (e : E) (x : A) → ◌≡◌ {A = Result A E} (Err e) (Ok x) → ⊥
err_not_ok e x same = cc same

-- what is not decoded is the base64 of no bytes
pub not_encoded : (inside body : List ℕ) (error : DecodeError) → decode_of standard inside ≡ Err error → IsBytes body
    → inside ≡ encode_of standard body → ⊥
not_encoded inside body error failed bytes same =
    err_not_ok error body (sym failed ∙ (ap (decode_of standard) same ∙ decode_of-encode_of standard body refl bytes))
