-- How a request that was read goes without a reply.
use Rattle.std.specs.Prelude.{◌≡◌, ◌≢◌, ℕ, true, List}
use Rattle.std.specs.declared.option.Option.{Option}
use Rattle.std.specs.declared.option.Option.TheVariants.{None, Some}
use Rattle.munge_types.specs.History.{verdict}
use Rattle.munge_types.specs.declared.history.Event.TheVariants.{Idle}
use Rattle.munge_types.specs.declared.history.Verdict.TheVariants.{Accepted}
use Rattle.cred_open.specs.Credential.{Credential, pair_of}
use Rattle.decode_rules.specs.Finding.{Finds, Ready}
use Rattle.wire_msg.specs.declared.message.Message.{Message}
use Rattle.wire_msg.specs.declared.message.Message.TheVariants.{EncodeRequest, EncodeReply, DecodeRequest, DecodeReply, Stop, Bye}
use Rattle.session_core.specs.Answering.{takes_reading}
use Rattle.session_core.specs.Service.{Made, Notes, Service, notes_of}

-- nothing is told
abbrev pub no_notes : Notes
no_notes = notes_of None None None

-- the clock gave no reading for the request, and so nothing was done
pub record IsUntimed (made : Option Made) (request : Message) (notes : Notes) : Type 0 where
  pub timed : takes_reading request ≡ true
  pub none_made : made ≡ None
  pub notes_are : notes ≡ no_notes

-- What was taken for a request: a reading of the clock for an encode or a decode request, none for
-- Stop; and words for an encode request alone, after the reading.
abbrev pub TakesFor : Message → (moment drawn : Option ℕ) → Type 0
TakesFor (EncodeRequest ask) moment drawn = moment ≢ None
TakesFor (DecodeRequest text) moment drawn = (moment ≢ None) × (drawn ≡ None)
TakesFor Stop moment drawn = (moment ≡ None) × (drawn ≡ None)
TakesFor (EncodeReply said) moment drawn = ⊥
TakesFor (DecodeReply said) moment drawn = ⊥
TakesFor (Bye status) moment drawn = ⊥

-- memory was wanted for the reply, before the gate was asked
pub record IsGivenUp (made : Option Made) (request : Message) (notes : Notes) : Type 0 where
  pub none_made : made ≡ None
  pub no_rule : notes.rule ≡ None
  pub takes : TakesFor request notes.moment notes.drawn

-- the gate was asked about a credential at this moment, and gave no verdict
pub record IsUnsaid (service : Service) (request : Message) (notes : Notes) (moment : ℕ)
    (credential : Credential) : Type 0 where
  pub text : List ℕ
  pub request_is : request ≡ DecodeRequest text
  pub finds : Finds service.terms moment text (Ready credential)
  pub notes_are : notes ≡ notes_of (Some moment) None None

-- the gate had no memory for a pair that its history would have accepted: its entry is idle
pub record IsIdle (service : Service) (made : Option Made) (request : Message) (notes : Notes)
    : Type 0 where
  pub moment : ℕ
  pub credential : Credential
  pub unsaid : IsUnsaid service request notes moment credential
  pub idle : Made
  pub made_is : made ≡ Some idle
  pub entry_is : idle.entry ≡ Idle service.number
  pub wanted : let pair = pair_of service.terms.settings.max_ttl credential in
      verdict idle.before pair moment ≡ Accepted

-- memory was wanted, for the reply or by the gate
pub data WantsMemory (service : Service) (made : Option Made) (request : Message) (notes : Notes)
    : Type 0 where
  to_reply : IsGivenUp made request notes → WantsMemory service made request notes
  to_enter : IsIdle service made request notes → WantsMemory service made request notes

-- the gate was worn, and made no entry
pub record IsRefusedByGate (service : Service) (made : Option Made) (request : Message)
    (notes : Notes) : Type 0 where
  pub moment : ℕ
  pub credential : Credential
  pub unsaid : IsUnsaid service request notes moment credential
  pub none_made : made ≡ None
