-- The credentials of a load are ready.
use Rattle.std.proofs.Common.{◌≡◌, ◌+◌, ◌%◌, ℕ, true, false, nat_eq, min, if◌then◌else◌, List, [], sym, subst, refl}
use Rattle.std.proofs.lemmas.List.{append-nil}
use Rattle.std.specs.declared.option.Option.TheVariants.{None}
use Rattle.munge_types.specs.declared.settings.Settings.{Settings}
use Rattle.cred_inner.specs.InnerPart.{Content}
use Rattle.cred_open.specs.OpeningRules.{Opens, first_broken}
use Rattle.cred_open.specs.Credential.{Credential}
use Rattle.cred_seal.specs.RoundTrip.{OpensTo}
use Rattle.cred_seal.specs.SealedContent.{sealed_content, stored_ttl}
use Rattle.decode_rules.specs.CallerRules.{caller_rules}
use Rattle.decode_rules.specs.Finding.{Finds, opened, found_by}
use Rattle.decode_rules.specs.Terms.{Terms}
use Rattle.load_maker.specs.Credentials.{IsCredential, asked_for, asker_of, moment, ttl_of}
use Rattle.load_maker.specs.Load.{IsUsual}
use Rattle.load_maker.specs.Presented.{IsReadyUntil, expiry_at}
use Rattle.load_maker.specs.declared.words.Drawn.{Drawn}

-- what credential i says
abbrev content_at : Settings → (i : ℕ) → Drawn → Content
content_at settings i drawn = sealed_content settings (asked_for i drawn.payload) (asker_of i) moment drawn.salt

-- it is for anyone, and its time has come
unbroken : (terms : Terms) (i : ℕ) (drawn : Drawn) → terms.settings.skew ≡ 300
    → first_broken (caller_rules terms moment (content_at terms.settings i drawn)) ≡ None
unbroken terms i drawn skew = rw skew refl

-- its time to live is stored as it was asked for, and granted
expires : (settings : Settings) (i : ℕ) → settings.max_ttl ≡ 3600
    → moment + min (stored_ttl settings (ttl_of i)) settings.max_ttl ≡ expiry_at i
expires settings i max =
    elim (nat_eq (i % 2) 0)
    as (λ even. moment + min (stored_ttl settings (if even then 300 else 100)) settings.max_ttl ≡ (if even then 1000300 else 1000100))
    [ true ↦ rw max refl | false ↦ rw max refl ]

-- a text that opens to what credential i says is ready
ready_of : (terms : Terms) (at i : ℕ) (drawn : Drawn) (text : List ℕ) (credential : Credential) → IsUsual terms.settings → at ≡ moment
    → Opens terms.files.key text credential → credential.content ≡ content_at terms.settings i drawn
    → IsReadyUntil terms at (expiry_at i) text
ready_of terms at i drawn text credential usual at_is opens says =
    let holds : first_broken (caller_rules terms at credential.content) ≡ None =
    subst (λ content. first_broken (caller_rules terms at content) ≡ None) (sym says)
    (subst (λ at'. first_broken (caller_rules terms at' (content_at terms.settings i drawn)) ≡ None) (sym at_is)
    (unbroken terms i drawn usual.skew)) in
    record {
      credential = credential;
      finds = subst (λ broken. Finds terms at text (found_by broken credential)) holds (opened credential opens);
      expiry_is =
          subst (λ content. content.time + min content.ttl terms.settings.max_ttl ≡ expiry_at i) (sym says)
          (expires terms.settings i usual.max_ttl);
    }

-- so is a credential under the key of some terms, by their settings
pub ready : (terms : Terms) (at i : ℕ) (drawn : Drawn) (text : List ℕ) → IsUsual terms.settings → at ≡ moment
    → IsCredential terms.files.key terms.settings i drawn text
    → IsReadyUntil terms at (expiry_at i) text
ready terms at i drawn text usual at_is made =
    let P : List ℕ → Type 0 = OpensTo terms.files.key (content_at terms.settings i drawn) in
    let opens : P text = subst P (append-nil text) (made.opens [] [] refl refl) in
    ready_of terms at i drawn text opens.credential usual at_is opens.opens opens.content_is
