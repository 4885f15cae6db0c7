-- The reply to a decode request.
use Rattle.std.specs.Prelude.{ℕ, List}
use Rattle.std.specs.declared.option.Option.{Option}
use Rattle.std.specs.declared.option.Option.TheVariants.{None, Some}
use Rattle.munge_types.specs.Algorithms.{cipher_number, mac_number}
use Rattle.munge_types.specs.History.{verdict}
use Rattle.munge_types.specs.Status.{status_number}
use Rattle.munge_types.specs.declared.history.Event.{Event}
use Rattle.munge_types.specs.declared.history.Verdict.{Verdict}
use Rattle.munge_types.specs.declared.settings.Settings.{Settings}
use Rattle.munge_types.specs.declared.status.Status.{Status}
use Rattle.munge_types.specs.declared.status.Status.TheVariants.{Success}
use Rattle.cred_open.specs.Credential.{Credential, pair_of}
use Rattle.wire_msg.specs.Spelling.{frame_of}
use Rattle.wire_msg.specs.declared.message.Content.{Content}
use Rattle.wire_msg.specs.declared.message.Message.{Message}
use Rattle.wire_msg.specs.declared.message.Message.TheVariants.{DecodeReply}
use Rattle.decode_rules.specs.Finding.{Finding, Refused, Ready}
use Rattle.decode_rules.specs.Reply.{Answer, Pending}
use Rattle.decode_rules.specs.VerdictRules.{verdict_rule, verdict_status}

-- the place of a reply whose request was not looked up in the history
abbrev pub nowhere : ℕ
nowhere = 18446744073709551615

-- a credential as a reply shows it: how it was sealed, and what it says but for the salt
abbrev pub content_shown : Credential → Content
content_shown credential =
    record {
      cipher = cipher_number credential.cipher;
      kind = mac_number credential.kind;
      addr = credential.content.addr;
      time = credential.content.time;
      ttl = credential.content.ttl;
      uid = credential.content.uid;
      gid = credential.content.gid;
      for_uid = credential.content.for_uid;
      for_gid = credential.content.for_gid;
      payload = credential.content.payload;
    }

-- the content of a reply: that of the credential that it shows, if any
abbrev pub shown : Option Credential → Option Content
shown None = None
shown (Some credential) = Some (content_shown credential)

-- the message that says this
abbrev pub message_of : Status → (rule place : ℕ) → Option Credential → Message
message_of status rule place credential =
    DecodeReply (record {
      status = status_number status;
      rule = rule;
      place = place;
      content = shown credential;
    })

-- the reply that says this
abbrev pub answer_of : Status → (rule place : ℕ) → Option Credential → Answer
answer_of status rule place credential =
    record {
      bytes = frame_of (message_of status rule place credential);
      status = status;
      rule = rule;
    }

-- the reply by a rule that is broken, without a place
abbrev pub refused_answer : (rule : ℕ) → Status → Option Credential → Answer
refused_answer rule status credential = answer_of status rule nowhere credential

-- the reply to a credential of which the history said this at this place
abbrev pub verdict_answer : Verdict → (place : ℕ) → Credential → Answer
verdict_answer said place credential =
    answer_of (verdict_status said) (verdict_rule said) place (Some credential)

-- the frame of the reply to a credential of which nothing was said yet
abbrev pub unsaid_frame : Credential → List ℕ
unsaid_frame credential = frame_of (message_of Success 0 0 (Some credential))

-- a credential of which nothing was said yet, where no more than this time to live is granted
abbrev pub pending_of : (max_ttl : ℕ) → Credential → Pending
pending_of max_ttl credential =
    record { pair = pair_of max_ttl credential; frame = unsaid_frame credential }

-- The reply to what a text comes to, after this history, at this moment, where an entry would have
-- this place.
abbrev pub answer_to : Settings → List Event → (moment place : ℕ) → Finding → Answer
answer_to settings history moment place (Refused rule status credential) =
    refused_answer rule status credential
answer_to settings history moment place (Ready credential) =
    verdict_answer (verdict history (pair_of settings.max_ttl credential) moment) place credential
