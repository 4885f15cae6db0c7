-- What a credential that was judged means for the text that it was opened from.
use Rattle.std.proofs.Common.{◌≡◌, ℕ, List, ap, sym, ◌∙◌, subst}
use Rattle.std.specs.declared.option.Option.{Option}
use Rattle.std.specs.declared.option.Option.TheVariants.{None, Some}
use Rattle.munge_types.specs.declared.status.Status.{Status}
use Rattle.munge_types.specs.declared.pair.Pair.{Pair}
use Rattle.cred_inner.specs.InnerPart.{Content}
use Rattle.cred_open.specs.Credential.{Credential, expiry_of}
use Rattle.cred_open.specs.OpeningRules.{Opens, first_broken}
use Rattle.decode_rules.specs.CallerRules.{caller_rules}
use Rattle.decode_rules.specs.DecodeReply.{pending_of, unsaid_frame}
use Rattle.decode_rules.specs.Finding.{Finds, Refused, Ready, opened, caller_breaks, found_by, shown_by}
use Rattle.decode_rules.specs.Prepared.{IsBarred, IsJudged, IsPrepared, IsRefused}
use Rattle.decode_rules.specs.Reply.{Answer, Pending}
use Rattle.decode_rules.specs.Terms.{Terms}
use Rattle.decode_rules.specs.declared.prepared.Prepared.{Prepared}
use Rattle.decode_rules.specs.declared.prepared.Prepared.TheVariants as prepared

-- a text whose credential breaks this rule comes to its refusal
refused_of_barred : (terms : Terms) (moment : ℕ) (text : List ℕ) (credential : Credential) (broken : Option (ℕ × Status)) (reply : Answer)
    → Finds terms moment text (found_by broken credential) → IsBarred broken credential reply → IsRefused terms moment text reply
refused_of_barred terms moment text credential None reply finds barred = absurd barred
refused_of_barred terms moment text credential (Some line) reply finds barred =
    record { rule = line.0; status = line.1; credential = shown_by line.0 credential; finds = finds; reply_is = barred }

pub prepared_of_judged : (terms : Terms) (moment : ℕ) (text : List ℕ) (credential : Credential) (made : Prepared)
    → Opens terms.files.key text credential → IsJudged terms moment credential made → IsPrepared terms moment text made
prepared_of_judged terms moment text credential (prepared.Refused reply) opens judged =
    refused_of_barred terms moment text credential (caller_breaks terms moment credential) reply (opened credential opens) judged
prepared_of_judged terms moment text credential (prepared.Ready ready) opens judged =
    record {
      credential = credential;
      finds = subst (λ broken. Finds terms moment text (found_by broken credential)) judged.0 (opened credential opens);
      ready_is = judged.1;
    }

abbrev pending_with : (expiry : ℕ) → (mac frame : List ℕ) → Pending
pending_with expiry mac frame = record { pair = record { expiry = expiry; mac = mac }; frame = frame }

-- a credential that is ready, by its parts
pub pending_is : (max_ttl : ℕ) (credential : Credential) (pair : Pair) (frame : List ℕ)
    → pair.mac ≡ credential.mac → pair.expiry ≡ expiry_of max_ttl credential → frame ≡ unsaid_frame credential
    → pending_with pair.expiry pair.mac frame ≡ pending_of max_ttl credential
pending_is max_ttl credential pair frame mac expiry same =
    ap (λ m. pending_with pair.expiry m frame) mac
    ∙ ap (λ e. pending_with e credential.mac frame) expiry
    ∙ ap (λ f. pending_with (expiry_of max_ttl credential) credential.mac f) same

-- a credential of this content breaks what the content does
pub breaks_alike : (terms : Terms) (moment : ℕ) (content : Content) (credential : Credential) (found : Option (ℕ × Status))
    → content ≡ credential.content → found ≡ first_broken (caller_rules terms moment content) → caller_breaks terms moment credential ≡ found
breaks_alike terms moment content credential found same broken =
    subst (λ c. first_broken (caller_rules terms moment c) ≡ found) same (sym broken)
