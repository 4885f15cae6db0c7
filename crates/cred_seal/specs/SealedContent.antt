-- What a sealed credential says.
use Rattle.std.specs.Prelude.{ℕ, nat_eq, if◌then◌else◌, min, List}
use Rattle.munge_types.specs.declared.identity.Identity.{Identity}
use Rattle.munge_types.specs.declared.settings.Settings.{Settings}
use Rattle.cred_inner.specs.InnerPart.{Content}
use Rattle.cred_seal.specs.Asked.{Asked}

-- The time to live that a credential gets: the default where 0 is asked for, the maximum where
-- 4294967295 is, and else what is asked for, up to the maximum.
abbrev pub stored_ttl : Settings → ℕ → ℕ
stored_ttl settings ttl =
    if nat_eq ttl 0 then settings.default_ttl
    else if nat_eq ttl 4294967295 then settings.max_ttl
    else min ttl settings.max_ttl

-- The content of the credential that this caller asked for at this moment.
abbrev pub sealed_content : Settings → Asked → Identity → (moment : ℕ) → (salt : List ℕ) → Content
sealed_content settings asked who moment salt =
    record {
      salt = salt;
      addr = settings.addr;
      time = moment;
      ttl = stored_ttl settings asked.ttl;
      uid = who.uid;
      gid = who.gid;
      for_uid = asked.for_uid;
      for_gid = asked.for_gid;
      payload = asked.payload;
    }
