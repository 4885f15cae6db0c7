-- A text comes to one finding at most.
use Rattle.std.proofs.Common.{◌≡◌, ℕ, List, ap}
use Rattle.munge_types.specs.declared.status.Status.{Status}
use Rattle.cred_open.specs.Credential.{Credential}
use Rattle.cred_open.specs.OpeningRules.{Opens, Refuses}
use Rattle.decode_rules.specs.Finding.{Finding, Finds, finding_of, unopened, opened}
use Rattle.decode_rules.specs.Terms.{Terms}

-- how a text may be refused or opened: in one way
pub record IsOpenedOnce (key text : List ℕ) : Type 0 where
  pub rule_one : (rule rule' : ℕ) (status status' : Status) → Refuses key text rule status → Refuses key text rule' status' → rule ≡ rule'
  pub status_one : (rule rule' : ℕ) (status status' : Status) → Refuses key text rule status → Refuses key text rule' status' → status ≡ status'
  pub not_both : (rule : ℕ) (status : Status) (credential : Credential) → Refuses key text rule status → Opens key text credential → ⊥
  pub credential_one : (first second : Credential) → Opens key text first → Opens key text second → first ≡ second

pub finding_one : (terms : Terms) (moment : ℕ) (text : List ℕ) (first second : Finding) → IsOpenedOnce terms.files.key text
    → Finds terms moment text first → Finds terms moment text second → first ≡ second
finding_one terms moment text first second once (unopened {rule = rule} {status = broken} refused) (unopened {rule = rule'} {status = broken'} refused') =
    let same_rule = once.rule_one rule rule' broken broken' refused refused' in
    let same_status = once.status_one rule rule' broken broken' refused refused' in
    cc
finding_one terms moment text first second once (unopened {rule = rule} {status = broken} refused) (opened credential opens) = absurd (once.not_both rule broken credential refused opens)
finding_one terms moment text first second once (opened credential opens) (unopened {rule = rule} {status = broken} refused) = absurd (once.not_both rule broken credential refused opens)
finding_one terms moment text first second once (opened credential opens) (opened credential' opens') =
    ap (finding_of terms moment) (once.credential_one credential credential' opens opens')
