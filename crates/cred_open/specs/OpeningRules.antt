-- The decode rules 1 to 9, which look at a text and the key alone: the first that a text breaks
-- with its status, and what a text says that breaks none.
use Rattle.std.specs.Prelude.{◌≡◌, ℕ, List}
use Rattle.std.specs.declared.option.Option.TheVariants.{None, Some}
use Rattle.munge_types.specs.declared.algorithms.Cipher.{Cipher}
use Rattle.munge_types.specs.declared.algorithms.MacKind.{MacKind}
use Rattle.munge_types.specs.declared.status.Status.{Status}
use Rattle.munge_types.specs.declared.status.Status.TheVariants.{BadCredential, Invalid}
use Rattle.cred_armor.specs.CredentialText.{Spells}
use Rattle.cred_inner.specs.InnerPart.{Content, IsContent, inner_part}
pub use Rattle.cred_outer.specs.OuterRules.{first_broken, outer_rules, unless}
use Rattle.cred_open.specs.Body.{IsBody, mac_of}
use Rattle.cred_open.specs.Credential.{Credential}

-- The first of the rules 1 to 9 that the text breaks is this one, with this status.
pub data Refuses (key text : List ℕ) : (rule : ℕ) → Status → Type 0 where
  -- 1: the text spells no body
  unspelled : ((body : List ℕ) → Spells text body → ⊥) → Refuses key text 1 BadCredential
  -- 2 to 7: the body that it spells breaks one on its outside
  outside : {rule : ℕ} {status : Status} (body : List ℕ) → Spells text body
      → first_broken (outer_rules body) ≡ Some (rule, status) → Refuses key text rule status
  -- 8: no inner part gives the body
  unsealed : (body : List ℕ) → Spells text body → first_broken (outer_rules body) ≡ None
      → ((cipher : Cipher) (kind : MacKind) (vector inner : List ℕ)
      → IsBody key cipher kind vector inner body → ⊥)
      → Refuses key text 8 Invalid
  -- 9: what gives the body is the inner part of no content
  empty : (body : List ℕ) → Spells text body → first_broken (outer_rules body) ≡ None
      → (cipher : Cipher) (kind : MacKind) (vector inner : List ℕ)
      → IsBody key cipher kind vector inner body
      → ((content : Content) → IsContent content → inner ≡ inner_part content → ⊥)
      → Refuses key text 9 BadCredential

-- The text breaks none of the rules 1 to 9, and is this credential.
pub record Opens (key text : List ℕ) (credential : Credential) : Type 0 where
  pub body : List ℕ
  pub vector : List ℕ
  pub spelled : Spells text body
  pub unbroken : first_broken (outer_rules body) ≡ None
  pub fits : IsContent credential.content
  pub sealed : IsBody key credential.cipher credential.kind vector
      (inner_part credential.content) body
  pub mac_is : credential.mac
      ≡ mac_of key credential.cipher credential.kind vector (inner_part credential.content)
