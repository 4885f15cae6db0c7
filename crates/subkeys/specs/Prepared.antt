-- What a `Prepared` has taken in, and what a `Subkeys` keeps.
use Rattle.std.specs.Prelude.{ℕ, List, []}
use Rattle.munge_types.specs.declared.algorithms.MacKind.TheVariants.{Sha1, Sha256, Sha512}
use Rattle.hmac_core.specs.Absorbed.{Absorbed}
use Rattle.subkeys.specs.Subkeys.{SubkeyPair, IsOf}
use Rattle.subkeys.specs.declared.prepared.Prepared.{Prepared}

-- this key, and no message
pub record IsPrepared (states : Prepared) (key : List ℕ) : Type 0 where
  pub sha1 : Absorbed states.sha1 Sha1 key []
  pub sha256 : Absorbed states.sha256 Sha256 key []
  pub sha512 : Absorbed states.sha512 Sha512 key []

-- HMAC prepared under each of the two subkeys, which are those of some key file
pub record IsKept (pair : SubkeyPair) (data_keys macs : Prepared) : Type 0 where
  pub under_cipher : IsPrepared data_keys pair.cipher
  pub under_mac : IsPrepared macs pair.mac
  pub of_a_key : ∥ ((key : List ℕ) × IsOf pair key) ∥₁
