-- What a sealed text is, and where it stands.
use Rattle.std.proofs.Common.{◌≡◌, ℕ, List, length, take, drop, ◌++◌, refl, ◌∙◌, ap}
use Rattle.std.proofs.lemmas.List.{drop_at}
use Rattle.std.specs.declared.option.Option.TheVariants.{Some}
use Rattle.munge_types.specs.declared.algorithms.Cipher.{Cipher}
use Rattle.munge_types.specs.declared.algorithms.MacKind.{MacKind}
use Rattle.munge_types.specs.declared.identity.Identity.{Identity}
use Rattle.munge_types.specs.declared.settings.Settings.{Settings}
use Rattle.cred_armor.specs.CredentialText.{armor_of}
use Rattle.cred_inner.specs.InnerPart.{Content, inner_part}
use Rattle.cred_outer.specs.OuterPart.{vector_size}
use Rattle.cred_open.specs.Body.{IsBody}
use Rattle.cred_seal.specs.Asked.{Asked, cipher_asked, mac_asked}
use Rattle.cred_seal.specs.SealedContent.{sealed_content}
use Rattle.cred_seal.specs.SealedText.{IsSealed}

-- the armour of a body that says what was asked
pub sealed_as : (key : List ℕ) (settings : Settings) (asked : Asked) (who : Identity) (moment : ℕ) (salt vector text read body : List ℕ) (cipher : Cipher) (kind : MacKind) (content : Content)
    → cipher_asked asked.cipher ≡ Some cipher → mac_asked cipher asked.kind ≡ Some kind
    → content ≡ sealed_content settings asked who moment salt
    → IsBody key cipher kind (take (vector_size cipher) vector) (inner_part content) body → text ≡ armor_of read → read ≡ body
    → IsSealed key settings asked who moment salt vector text
sealed_as key settings asked who moment salt vector text read body cipher kind content cipher_is kind_is said sealed armored same =
    record {
      cipher = cipher;
      kind = kind;
      body = body;
      cipher_is = cipher_is;
      kind_is = kind_is;
      sealed = rw said at sealed;
      armored = armored ∙ ap armor_of same;
    }

-- an armour that was appended, as it stands behind what was there before
pub armor_behind : (old base text whole : List ℕ) → base ≡ old → whole ≡ base ++ text → drop (length old) whole ≡ text
armor_behind old base text whole same is =
    ap (drop (length old)) (is ∙ ap (λ (l : List ℕ). l ++ text) same) ∙ drop_at old text (length old) refl
