-- The key of either size.
use Rattle.std.specs.Prelude.{ℕ, List}
use Rattle.aes_block.specs.declared.data_key.DataKey.{DataKey}
use Rattle.aes_block.specs.declared.data_key.DataKey.TheVariants.{Aes128, Aes256}

-- the bytes of the key, 16 or 32
abbrev pub key_of : DataKey → List ℕ
key_of (Aes128 key) = key
key_of (Aes256 key) = key
