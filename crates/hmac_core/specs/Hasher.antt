-- What a `Hasher` has taken in.
use Rattle.std.specs.Prelude.{List, ℕ}
use Rattle.sha1.specs.Sha1 as standard1
use Rattle.sha2.specs.Hashers.{Holds256, Holds512}
use Rattle.munge_types.specs.declared.algorithms.MacKind.{MacKind}
use Rattle.munge_types.specs.declared.algorithms.MacKind.TheVariants.{Sha1, Sha256, Sha512}
use Rattle.hmac_core.specs.declared.hasher.Hasher.{Hasher}
use Rattle.hmac_core.specs.declared.hasher.Hasher.TheVariants as hasher

-- its hash function
abbrev pub kind_of : Hasher → MacKind
kind_of (hasher.Sha1 state) = Sha1
kind_of (hasher.Sha256 state) = Sha256
kind_of (hasher.Sha512 state) = Sha512

-- this message
abbrev pub Holds : Hasher → List ℕ → Type 0
Holds (hasher.Sha1 state) message = standard1.Holds state message
Holds (hasher.Sha256 state) message = Holds256 state message
Holds (hasher.Sha512 state) message = Holds512 state message
