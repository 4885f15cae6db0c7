-- The data key of a cipher whose key has some size.
use Rattle.std.proofs.Common.{◌≡◌, ℕ, ◌<◌, ◌≤◌, List, All, length, take, sym, ap, ◌∙◌, arith}
use Rattle.std.proofs.lemmas.List.{length-take-le}
use Rattle.std.proofs.lemmas.List.Elements.{All-take}
use Rattle.munge_types.specs.declared.algorithms.Cipher.{Cipher}
use Rattle.munge_types.specs.declared.algorithms.MacKind.{MacKind}
use Rattle.munge_types.specs.Algorithms.{mac_size}
use Rattle.hmac_core.specs.Hmac.{hmac}
use Rattle.subkeys.specs.DataKey.{key_size, data_key_under}

abbrev pub IsByte : ℕ → Type 0
IsByte b = b < 256

pub data_key_is : (cipher : Cipher) (kind : MacKind) (subkey mac derived front : List ℕ) (size : ℕ) → key_size cipher ≡ size
    → derived ≡ hmac kind subkey mac → front ≡ take size derived → front ≡ data_key_under cipher kind subkey mac
unfolding data_key_under
data_key_is cipher kind subkey mac derived front size sized made front_is =
    front_is ∙ ap (take size) made ∙ ap (λ (n : ℕ). take n (hmac kind subkey mac)) (sym sized)

module _ (cipher : Cipher) (kind : MacKind) (subkey mac : List ℕ) where
  pub length-data_key : length (hmac kind subkey mac) ≡ mac_size kind → key_size cipher ≤ mac_size kind
      → length (data_key_under cipher kind subkey mac) ≡ key_size cipher
  unfolding data_key_under
  length-data_key long within = length-take-le (key_size cipher) (hmac kind subkey mac) (omega arith)

  pub All-data_key : All IsByte (hmac kind subkey mac) → All IsByte (data_key_under cipher kind subkey mac)
  unfolding data_key_under
  All-data_key all = All-take IsByte (key_size cipher) (hmac kind subkey mac) all
