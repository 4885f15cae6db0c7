-- The text of a sealed credential.
use Rattle.std.specs.Prelude.{◌≡◌, ℕ, List, take}
use Rattle.std.specs.declared.option.Option.TheVariants.{Some}
use Rattle.munge_types.specs.declared.algorithms.Cipher.{Cipher}
use Rattle.munge_types.specs.declared.algorithms.MacKind.{MacKind}
use Rattle.munge_types.specs.declared.identity.Identity.{Identity}
use Rattle.munge_types.specs.declared.settings.Settings.{Settings}
use Rattle.cred_armor.specs.CredentialText.{armor_of}
use Rattle.cred_inner.specs.InnerPart.{inner_part}
use Rattle.cred_open.specs.Body.{IsBody}
use Rattle.cred_outer.specs.OuterPart.{vector_size}
use Rattle.cred_seal.specs.Asked.{Asked, cipher_asked, mac_asked}
use Rattle.cred_seal.specs.SealedContent.{sealed_content}

-- the most bytes of a sealed text, by any of the algorithms
abbrev pub text_limit : ℕ
text_limit = 1398287

-- The text is the armour of the body whose inner part says what was asked, by whom and when, with
-- this salt, by the algorithms that were asked for. Without a cipher the vector is left out.
pub record IsSealed
    (key : List ℕ) (settings : Settings) (asked : Asked) (who : Identity) (moment : ℕ)
    (salt vector text : List ℕ) : Type 0 where
  pub cipher : Cipher
  pub kind : MacKind
  pub body : List ℕ
  pub cipher_is : cipher_asked asked.cipher ≡ Some cipher
  pub kind_is : mac_asked cipher asked.kind ≡ Some kind
  pub sealed : IsBody key cipher kind (take (vector_size cipher) vector)
      (inner_part (sealed_content settings asked who moment salt)) body
  pub armored : text ≡ armor_of body
