-- What a text comes to by the decode rules 1 to 12, before the history is asked.
use Rattle.std.specs.Prelude.{◌≡◌, ℕ, nat_eq, if◌then◌else◌, List}
use Rattle.std.specs.declared.option.Option.{Option}
use Rattle.std.specs.declared.option.Option.TheVariants.{None, Some}
use Rattle.munge_types.specs.declared.status.Status.{Status}
use Rattle.cred_open.specs.Credential.{Credential}
use Rattle.cred_open.specs.OpeningRules.{Refuses, Opens, first_broken}
use Rattle.decode_rules.specs.CallerRules.{caller_rules}
use Rattle.decode_rules.specs.Terms.{Terms}

pub data Finding : Type 0 where
  -- this is the first rule that is broken, with its status, and the credential where it is shown
  Refused : (rule : ℕ) → Status → Option Credential → Finding
  -- none of the rules 1 to 12 is broken
  Ready : Credential → Finding

-- of the rules 10 to 12, a reply shows the credential by the last alone
abbrev pub shown_by : (rule : ℕ) → Credential → Option Credential
shown_by rule credential = if nat_eq rule 12 then Some credential else None

-- the first of the rules 10 to 12 that a credential breaks at this moment
abbrev pub caller_breaks : Terms → (moment : ℕ) → Credential → Option (ℕ × Status)
caller_breaks terms moment credential = first_broken (caller_rules terms moment credential.content)

-- what a credential comes to whose first broken rule of these is this
abbrev pub found_by : Option (ℕ × Status) → Credential → Finding
found_by None credential = Ready credential
found_by (Some line) credential = Refused line.0 line.1 (shown_by line.0 credential)

-- what a credential comes to by the rules 10 to 12 at this moment
abbrev pub finding_of : Terms → (moment : ℕ) → Credential → Finding
finding_of terms moment credential = found_by (caller_breaks terms moment credential) credential

-- what a text comes to on these terms, at this moment
pub data Finds (terms : Terms) (moment : ℕ) (text : List ℕ) : Finding → Type 0 where
  -- it breaks one of the rules 1 to 9
  unopened : {rule : ℕ} {status : Status} → Refuses terms.files.key text rule status
      → Finds terms moment text (Refused rule status None)
  -- it is a credential
  opened : (credential : Credential) → Opens terms.files.key text credential
      → Finds terms moment text (finding_of terms moment credential)
