-- What was sealed opens.
use Rattle.std.proofs.Common.{◌≡◌, ℕ, List, ◌++◌, refl}
use Rattle.std.specs.declared.option.Option.TheVariants.{None}
use Rattle.munge_types.specs.declared.algorithms.Cipher.{Cipher}
use Rattle.munge_types.specs.declared.algorithms.MacKind.{MacKind}
use Rattle.cred_armor.specs.CredentialText.{Spells, armor_of}
use Rattle.cred_inner.specs.InnerPart.{Content, IsContent, inner_part}
use Rattle.cred_outer.specs.OuterRules.{first_broken, outer_rules}
use Rattle.cred_open.specs.Body.{IsBody, mac_of}
use Rattle.cred_seal.specs.RoundTrip.{OpensTo}

-- the text that is the armour of what was read of the body, with spaces round it
pub spelled_in_spaces : (text read body before after : List ℕ) → text ≡ armor_of read → read ≡ body
    → Spells (before ++ (armor_of read ++ after)) read → Spells (before ++ (text ++ after)) body
spelled_in_spaces text read body before after armored same spelled = rw (armored, ← same) spelled

pub opens_to : (key text body vector : List ℕ) (content said : Content) (cipher : Cipher) (kind : MacKind) → content ≡ said
    → IsContent content → IsBody key cipher kind vector (inner_part content) body → first_broken (outer_rules body) ≡ None → Spells text body
    → OpensTo key said text
opens_to key text body vector content said cipher kind same fits sealed unbroken spelled =
    record {
      credential = record { cipher = cipher; kind = kind; mac = mac_of key cipher kind vector (inner_part content); content = content };
      opens = record {
        body = body;
        vector = vector;
        spelled = spelled;
        unbroken = unbroken;
        fits = fits;
        sealed = sealed;
        mac_is = refl;
      };
      content_is = same;
    }
