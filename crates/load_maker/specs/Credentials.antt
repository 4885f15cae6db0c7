-- The credentials of a load.
use Rattle.std.specs.Prelude.{◌≡◌, ℕ, ◌+◌, ◌%◌, nat_eq, if◌then◌else◌, false, List, slice_get}
use Rattle.std.specs.declared.option.Option.TheVariants.{Some}
use Rattle.munge_types.specs.Algorithms.{cipher_number, mac_number}
use Rattle.munge_types.specs.declared.algorithms.Cipher.{Cipher}
use Rattle.munge_types.specs.declared.algorithms.Cipher.TheVariants as cipher
use Rattle.munge_types.specs.declared.algorithms.MacKind.TheVariants.{Sha256}
use Rattle.munge_types.specs.declared.identity.Identity.{Identity}
use Rattle.munge_types.specs.declared.settings.Settings.{Settings}
use Rattle.cred_inner.specs.InnerPart.{any}
use Rattle.cred_seal.specs.Asked.{Asked}
use Rattle.cred_seal.specs.RoundTrip.{OpensInSpaces}
use Rattle.cred_seal.specs.SealedContent.{sealed_content}
use Rattle.cred_seal.specs.SealedText.{IsSealed}
use Rattle.load_maker.specs.Words.{drawn_at, key_of, place_of}
use Rattle.load_maker.specs.declared.words.Drawn.{Drawn}

-- the cipher of credential i: none, AES-128 and AES-256 in turn
abbrev pub cipher_of : (i : ℕ) → Cipher
cipher_of i =
    if nat_eq (i % 3) 0 then cipher.None
    else if nat_eq (i % 3) 1 then cipher.Aes128
    else cipher.Aes256

-- the time to live that it asks for, in seconds
abbrev pub ttl_of : (i : ℕ) → ℕ
ttl_of i = if nat_eq (i % 2) 0 then 300 else 100

-- what it asks for: it is for anyone
abbrev pub asked_for : (i : ℕ) → (payload : List ℕ) → Asked
asked_for i payload =
    record {
      cipher = cipher_number (cipher_of i);
      kind = mac_number Sha256;
      ttl = ttl_of i;
      for_uid = any;
      for_gid = any;
      payload = payload;
    }

-- who asks for it: ten callers in turn
abbrev pub asker_of : (i : ℕ) → Identity
asker_of i = record { uid = 1000 + i % 10; gid = 100; control = false }

-- when each is asked for, in seconds since 1970
abbrev pub moment : ℕ
moment = 1000000

-- The text is credential i, sealed under this key, by these settings, with what was drawn for it.
-- That it opens, with any spaces round it, to what was asked, by whom and when, is what `cred_seal`
-- promises of it, carried along.
pub record IsCredential
    (key : List ℕ) (settings : Settings) (i : ℕ) (drawn : Drawn) (text : List ℕ) : Type 0 where
  pub is_sealed : IsSealed key settings (asked_for i drawn.payload) (asker_of i) moment
      drawn.salt drawn.iv text
  pub opens : OpensInSpaces key
      (sealed_content settings (asked_for i drawn.payload) (asker_of i) moment drawn.salt) text

-- these are the first of the credentials of a seed, in order, under its key
abbrev pub AreCredentials : (seed : List ℕ) → Settings → (texts : List (List ℕ)) → Type 0
AreCredentials seed settings texts =
    (i : ℕ) (text : List ℕ) → slice_get texts i ≡ Some text
    → IsCredential (key_of seed) settings i (drawn_at seed (place_of i)) text
