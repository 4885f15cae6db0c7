-- The numbers of ciphers and MACs.
use Rattle.std.proofs.Common.{◌≡◌, ℕ, false, arith}
use Rattle.munge_types.specs.Algorithms.{cipher_number, mac_number}
use Rattle.munge_types.specs.declared.algorithms.Cipher.{Cipher}
use Rattle.munge_types.specs.declared.algorithms.Cipher.TheVariants as ciphers
use Rattle.munge_types.specs.declared.algorithms.MacKind.{MacKind}
use Rattle.munge_types.specs.declared.algorithms.MacKind.TheVariants.{Sha1, Sha256, Sha512}
use Rattle.cred_outer.specs.OuterRules.{is_cipher, is_mac}

-- a number that no cipher has
pub no_cipher : (number : ℕ) → ((cipher : Cipher) → cipher_number cipher ≡ number → ⊥) → is_cipher number ≡ false
no_cipher number none =
    let not_0 = none ciphers.None in
    let not_4 = none ciphers.Aes128 in
    let not_5 = none ciphers.Aes256 in
    grind arith

-- a number that no MAC has
pub no_mac : (number : ℕ) → ((kind : MacKind) → mac_number kind ≡ number → ⊥) → is_mac number ≡ false
no_mac number none =
    let not_3 = none Sha1 in
    let not_5 = none Sha256 in
    let not_6 = none Sha512 in
    grind arith
