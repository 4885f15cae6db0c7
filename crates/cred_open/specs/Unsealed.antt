-- A body with its inner part in plain.
use Rattle.std.specs.Prelude.{◌≡◌, ℕ, List}
use Rattle.std.specs.declared.option.Option.TheVariants.{None}
use Rattle.munge_types.specs.declared.algorithms.Cipher.{Cipher}
use Rattle.munge_types.specs.declared.algorithms.MacKind.{MacKind}
use Rattle.cred_outer.specs.OuterRules.{first_broken, outer_rules}
use Rattle.cred_open.specs.Body.{IsBody, mac_of}

-- the body breaks none of the rules 1 to 8, and this inner part gives it, with this MAC
pub record IsUnsealed
    (key body : List ℕ) (cipher : Cipher) (kind : MacKind) (mac inner : List ℕ) : Type 0 where
  pub vector : List ℕ
  pub unbroken : first_broken (outer_rules body) ≡ None
  pub sealed : IsBody key cipher kind vector inner body
  pub mac_is : mac ≡ mac_of key cipher kind vector inner
