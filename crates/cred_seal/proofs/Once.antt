-- A request is sealed to one text.
use Rattle.std.proofs.Common.{◌≡◌, ℕ, List, ◌++◌, take, sym, ap, ◌∙◌}
use Rattle.std.specs.declared.option.Option.{Option}
use Rattle.std.specs.declared.option.Option.TheVariants.{Some}
use Rattle.munge_types.specs.declared.algorithms.Cipher.{Cipher}
use Rattle.munge_types.specs.declared.algorithms.Cipher.TheVariants as ciphers
use Rattle.munge_types.specs.declared.algorithms.MacKind.{MacKind}
use Rattle.munge_types.specs.declared.identity.Identity.{Identity}
use Rattle.munge_types.specs.declared.settings.Settings.{Settings}
use Rattle.cred_armor.specs.CredentialText.{armor_of}
use Rattle.cred_inner.specs.InnerPart.{inner_part}
use Rattle.cred_outer.specs.OuterPart.{outer_part, vector_size}
use Rattle.cred_open.specs.Body.{IsBody, Seals, mac_of}
use Rattle.cred_seal.specs.Asked.{Asked, mac_asked}
use Rattle.cred_seal.specs.SealedContent.{sealed_content}
use Rattle.cred_seal.specs.SealedText.{IsSealed}

-- an inner part has one sealed part by the same algorithms
one_sealed : (key : List ℕ) (cipher : Cipher) (kind : MacKind) (vector mac inner first second : List ℕ) → Seals key cipher kind vector mac inner first
    → Seals key cipher kind vector mac inner second → first ≡ second
one_sealed key ciphers.None kind vector mac inner first second one two = one ∙ sym two
one_sealed key ciphers.Aes128 kind vector mac inner first second one two = one ∙ sym two
one_sealed key ciphers.Aes256 kind vector mac inner first second one two = one ∙ sym two

-- and one body
one_body : (key : List ℕ) (cipher : Cipher) (kind : MacKind) (vector inner first second : List ℕ) → IsBody key cipher kind vector inner first
    → IsBody key cipher kind vector inner second → first ≡ second
one_body key cipher kind vector inner first second one two =
    let made : List ℕ → List ℕ = λ sealed. outer_part cipher kind vector ++ (mac_of key cipher kind vector inner ++ sealed) in
    let same : one.sealed ≡ two.sealed = one_sealed key cipher kind vector _ inner one.sealed two.sealed one.seals two.seals in
    one.whole ∙ (ap made same ∙ sym two.whole)

some_once : {A : Type 0} (a b : A) → ◌≡◌ {A = Option A} (Some a) (Some b) → a ≡ b
some_once a b same = cc same

pub sealed_once : (key : List ℕ) (settings : Settings) (asked : Asked) (who : Identity) (moment : ℕ) (salt vector first second : List ℕ)
    → IsSealed key settings asked who moment salt vector first → IsSealed key settings asked who moment salt vector second
    → first ≡ second
sealed_once key settings asked who moment salt vector first second one two =
    let cipher : two.cipher ≡ one.cipher = some_once two.cipher one.cipher (sym two.cipher_is ∙ one.cipher_is) in
    let asked_alike : mac_asked one.cipher asked.kind ≡ Some two.kind = rw cipher at two.kind_is in
    let kind : two.kind ≡ one.kind = some_once two.kind one.kind (sym asked_alike ∙ one.kind_is) in
    let other : IsBody key one.cipher one.kind (take (vector_size one.cipher) vector) (inner_part (sealed_content settings asked who moment salt)) two.body =
    rw (cipher, kind) at two.sealed in
    let same : one.body ≡ two.body = one_body key one.cipher one.kind _ _ one.body two.body one.sealed other in
    one.armored ∙ (ap armor_of same ∙ sym two.armored)
