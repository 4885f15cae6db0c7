-- Each MAC is long enough for the key that is made of it.
use Rattle.std.proofs.Common.{◌≡◌, ◌≤◌, refl, arith}
use Rattle.munge_types.specs.Algorithms.{mac_size}
use Rattle.munge_types.specs.declared.algorithms.MacKind.{MacKind}
use Rattle.munge_types.specs.declared.algorithms.MacKind.TheVariants.{Sha1, Sha256, Sha512}

pub short_within : (kind : MacKind) → 16 ≤ mac_size kind
short_within Sha1 = omega arith
short_within Sha256 = omega arith
short_within Sha512 = omega arith

pub long_within : (kind : MacKind) → ¬ (kind ≡ Sha1) → 32 ≤ mac_size kind
long_within Sha1 other = absurd (other refl)
long_within Sha256 other = omega arith
long_within Sha512 other = omega arith
