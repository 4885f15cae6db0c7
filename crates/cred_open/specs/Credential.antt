-- An opened credential.
use Rattle.std.specs.Prelude.{ℕ, ◌+◌, min, List}
use Rattle.munge_types.specs.declared.algorithms.Cipher.{Cipher}
use Rattle.munge_types.specs.declared.algorithms.MacKind.{MacKind}
use Rattle.munge_types.specs.declared.pair.Pair.{Pair}
use Rattle.cred_inner.specs.InnerPart.{Content}

-- what it says, its MAC, and the algorithms that it was sealed by
pub record Credential : Type 0 where
  pub cipher : Cipher
  pub kind : MacKind
  pub mac : List ℕ
  pub content : Content

-- the last second in which it may be accepted, by one who grants no more than this time to live
abbrev pub expiry_of : (max_ttl : ℕ) → Credential → ℕ
expiry_of max_ttl credential = credential.content.time + min credential.content.ttl max_ttl

-- what the replay state remembers of it
abbrev pub pair_of : (max_ttl : ℕ) → Credential → Pair
pair_of max_ttl credential = record { expiry = expiry_of max_ttl credential; mac = credential.mac }
