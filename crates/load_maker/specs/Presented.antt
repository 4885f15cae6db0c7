-- What the credentials of a load come to where they are presented.
use Rattle.std.specs.Prelude.{◌≡◌, ℕ, ◌%◌, nat_eq, if◌then◌else◌, List}
use Rattle.cred_open.specs.Credential.{Credential, expiry_of}
use Rattle.decode_rules.specs.Finding.{Finds, Ready}
use Rattle.decode_rules.specs.Terms.{Terms}

-- the last second in which credential i may be accepted: 300 or 100 after it was sealed
abbrev pub expiry_at : (i : ℕ) → ℕ
expiry_at i = if nat_eq (i % 2) 0 then 1000300 else 1000100

-- the text breaks none of the rules 1 to 12, and its pair has this expiry
pub record IsReadyUntil (terms : Terms) (moment expiry : ℕ) (text : List ℕ) : Type 0 where
  pub credential : Credential
  pub finds : Finds terms moment text (Ready credential)
  pub expiry_is : expiry_of terms.settings.max_ttl credential ≡ expiry
