-- A credential's body as its parts, one after another.
use Rattle.std.specs.Prelude.{◌≡◌, ℕ, List, ◌++◌, length}
use Rattle.munge_types.specs.Algorithms.{mac_size}
use Rattle.munge_types.specs.declared.algorithms.Cipher.{Cipher}
use Rattle.munge_types.specs.declared.algorithms.MacKind.{MacKind}
use Rattle.cred_outer.specs.OuterPart.{outer_part, vector_size}

-- outer part, MAC and the rest, where initial vector and MAC have their sizes
pub record AreParts
    (cipher : Cipher) (kind : MacKind) (vector mac rest body : List ℕ) : Type 0 where
  pub vector_fits : length vector ≡ vector_size cipher
  pub mac_fits : length mac ≡ mac_size kind
  pub whole : body ≡ outer_part cipher kind vector ++ (mac ++ rest)

-- the parts of two cuts are the same
pub record SameParts (c d : Cipher) (k l : MacKind) (v w m n r s : List ℕ) : Type 0 where
  pub cipher : c ≡ d
  pub kind : k ≡ l
  pub vector : v ≡ w
  pub mac : m ≡ n
  pub rest : r ≡ s
