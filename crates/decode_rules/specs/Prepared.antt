-- What is made of a text before the history is asked.
use Rattle.std.specs.Prelude.{◌≡◌, ℕ, List}
use Rattle.std.specs.declared.option.Option.{Option}
use Rattle.std.specs.declared.option.Option.TheVariants.{None, Some}
use Rattle.munge_types.specs.declared.status.Status.{Status}
use Rattle.cred_open.specs.Credential.{Credential}
use Rattle.cred_outer.specs.declared.refused.OuterRefused.{OuterRefused}
use Rattle.decode_rules.specs.DecodeReply.{pending_of, refused_answer}
use Rattle.decode_rules.specs.Finding.{Finds, Refused, Ready, caller_breaks, shown_by}
use Rattle.decode_rules.specs.Reply.{Answer, Pending}
use Rattle.decode_rules.specs.Terms.{Terms}
use Rattle.decode_rules.specs.declared.prepared.Prepared.{Prepared}
use Rattle.decode_rules.specs.declared.prepared.Prepared.TheVariants as prepared

-- a broken rule as a line of a table
abbrev pub line_of : Option OuterRefused → Option (ℕ × Status)
line_of None = None
line_of (Some broken) = Some (broken.rule, broken.status)

-- one of the rules 1 to 12 is broken first, and the reply says so
pub record IsRefused (terms : Terms) (moment : ℕ) (text : List ℕ) (reply : Answer) : Type 0 where
  pub rule : ℕ
  pub status : Status
  pub credential : Option Credential
  pub finds : Finds terms moment text (Refused rule status credential)
  pub reply_is : reply ≡ refused_answer rule status credential

-- none of the rules 1 to 12 is broken; the pair is the credential's, and the reply wants but what
-- the history says
pub record IsReady (terms : Terms) (moment : ℕ) (text : List ℕ) (ready : Pending) : Type 0 where
  pub credential : Credential
  pub finds : Finds terms moment text (Ready credential)
  pub ready_is : ready ≡ pending_of terms.settings.max_ttl credential

-- a credential breaks this rule, and the reply says so
abbrev pub IsBarred : Option (ℕ × Status) → Credential → Answer → Type 0
IsBarred None credential reply = ⊥
IsBarred (Some line) credential reply =
    reply ≡ refused_answer line.0 line.1 (shown_by line.0 credential)

-- what the rules 1 to 12 make of a text
abbrev pub IsPrepared : Terms → (moment : ℕ) → (text : List ℕ) → Prepared → Type 0
IsPrepared terms moment text (prepared.Refused reply) = IsRefused terms moment text reply
IsPrepared terms moment text (prepared.Ready ready) = IsReady terms moment text ready

-- what the rules 10 to 12 make of a credential: the reply by the first that is broken, or its pair
-- and the reply but for what the history says
abbrev pub IsJudged : Terms → (moment : ℕ) → Credential → Prepared → Type 0
IsJudged terms moment credential (prepared.Refused reply) =
    IsBarred (caller_breaks terms moment credential) credential reply
IsJudged terms moment credential (prepared.Ready ready) =
    (caller_breaks terms moment credential ≡ None)
    × (ready ≡ pending_of terms.settings.max_ttl credential)
