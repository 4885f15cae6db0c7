-- What an `Hmac` has taken in.
use Rattle.std.specs.Prelude.{◌≡◌, ℕ, List, ◌++◌}
use Rattle.munge_types.specs.declared.algorithms.MacKind.{MacKind}
use Rattle.hmac_core.specs.Hasher.{Holds, kind_of}
use Rattle.hmac_core.specs.Hmac.{inner_pad, outer_pad, padded_by}
use Rattle.hmac_core.specs.declared.hmac.Hmac.{Hmac}

-- this message, under this hash function and this key
pub record Absorbed (state : Hmac) (kind : MacKind) (key message : List ℕ) : Type 0 where
  pub inner_kind : kind_of state.inner ≡ kind
  pub outer_kind : kind_of state.outer ≡ kind
  pub inside : Holds state.inner (inner_pad kind key ++ message)
  pub outside : Holds state.outer (outer_pad kind key)

-- the key's block alone
pub record IsKeyed (state : Hmac) (kind : MacKind) (block : List ℕ) : Type 0 where
  pub inner_kind : kind_of state.inner ≡ kind
  pub outer_kind : kind_of state.outer ≡ kind
  pub inside : Holds state.inner (padded_by 0x36 block)
  pub outside : Holds state.outer (padded_by 0x5c block)
