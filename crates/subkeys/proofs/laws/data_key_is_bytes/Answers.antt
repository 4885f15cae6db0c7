use Rattle.subkeys.proofs.DataKeys.{length-data_key, All-data_key}
use Rattle.subkeys.proofs.laws.data_key_is_bytes.Goals as goal

pub returns : goal.returns
returns c = record {
  size = λ cipher kind subkey mac. length-data_key cipher kind subkey mac (c.mac_has_its_size.ensures kind subkey mac);
  bytes = λ cipher kind subkey mac. All-data_key cipher kind subkey mac (c.mac_is_bytes.ensures kind subkey mac);
}
