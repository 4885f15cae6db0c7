-- What was sealed opens.
use Rattle.std.specs.Prelude.{◌≡◌, ℕ, List, ◌++◌}
use Rattle.cred_armor.specs.CredentialText.{AreSpaces}
use Rattle.cred_inner.specs.InnerPart.{Content}
use Rattle.cred_open.specs.Credential.{Credential}
use Rattle.cred_open.specs.OpeningRules.{Opens}

-- The text breaks none of the rules 1 to 9 under the key, and this is what the credential says that
-- it is.
pub record OpensTo (key : List ℕ) (content : Content) (text : List ℕ) : Type 0 where
  pub credential : Credential
  pub opens : Opens key text credential
  pub content_is : credential.content ≡ content

-- so does the text with any spaces round it
abbrev pub OpensInSpaces : (key : List ℕ) → Content → (text : List ℕ) → Type 0
OpensInSpaces key content text =
    (before after : List ℕ) → AreSpaces before → AreSpaces after
    → OpensTo key content (before ++ (text ++ after))
