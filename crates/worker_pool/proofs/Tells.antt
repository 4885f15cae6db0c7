-- What is told of a job that made an entry, and of one that found the gate worn.
use Rattle.std.proofs.Common.{inl, inr, ◌≡◌, ℕ, ◌<◌, List, Option, Some, None, sym, ap, ◌∙◌, subst, arith}
use Rattle.munge_types.specs.declared.history.Event.{Event}
use Rattle.munge_types.specs.declared.history.Event.TheVariants.{Idle}
use Rattle.munge_types.specs.declared.settings.Settings.{Settings}
use Rattle.decode_rules.specs.DecodeReply.{answer_to}
use Rattle.decode_rules.specs.Finding.{Finding, Refused, Ready}
use Rattle.wire_msg.specs.declared.message.Message.{Message}
use Rattle.wire_msg.specs.declared.message.Message.TheVariants.{EncodeRequest, EncodeReply, DecodeRequest, DecodeReply, Stop, Bye}
use Rattle.replay_gate.specs.Worn.{worn_at}
use Rattle.session_core.specs.Connection.{Connection}
use Rattle.session_core.specs.OnGate.{StandsIn, WornWithin}
use Rattle.session_core.specs.Service.{IsLookUp, Made, Notes, Replies, Service, notes_of}
use Rattle.session_core.specs.Serving.{EndsAs, Exchange, IsServed, notes_told}
use Rattle.session_core.specs.Unreplied.{WantsMemory, to_reply, to_enter}
use Rattle.session_core.specs.declared.served.ServeEnd.{ServeEnd}
use Rattle.session_core.specs.declared.served.ServeEnd.TheVariants as how
use Rattle.session_core.specs.declared.served.Served.{Served}
use Rattle.worker_pool.specs.Entering.{TellsRule}
use Rattle.worker_pool.specs.Pool.{IsNotWorn}

some_is_none : {A : Type 0} (a : A) → Some a ≡ None → ⊥
some_is_none a e = absurd (cc)

-- the entry is a look-up, and the rule is its verdict's
look_up_told : (settings : Settings) (number moment : ℕ) (finding : Finding) (made : Made) (rule : Option ℕ) (size : ℕ)
    → IsLookUp settings number moment finding (Some made)
    → rule ≡ Some (answer_to settings made.before moment size finding).rule
    → TellsRule made.before made.entry rule
look_up_told settings number moment (Refused rule' status credential) made rule size none told = absurd (some_is_none made none)
look_up_told settings number moment (Ready credential) made rule size is told =
    subst (λ e. TellsRule made.before e rule) (sym is) told

rule_of_notes : (notes : Notes) (moment rule drawn : Option ℕ) → notes ≡ notes_of moment rule drawn → notes.rule ≡ rule
rule_of_notes notes moment rule drawn is = ap (λ (n : Notes). n.rule) is

replies_told : (service : Service) (made : Made) (request : Message) (notes : Notes) (reply : List ℕ)
    → Replies service (Some made) request notes reply → TellsRule made.before made.entry notes.rule
replies_told service made (EncodeRequest ask) notes reply replies = absurd (some_is_none made replies.0)
replies_told service made (DecodeRequest text) notes reply replies =
    look_up_told service.terms.settings service.number replies.moment replies.finding made notes.rule _ replies.look_up
    (ap (λ (n : Notes). n.rule) replies.notes_are)
replies_told service made Stop notes reply replies = absurd (some_is_none made replies.0)
replies_told service made (EncodeReply said) notes reply replies = absurd replies
replies_told service made (DecodeReply said) notes reply replies = absurd replies
replies_told service made (Bye status) notes reply replies = absurd replies

wanted_told : (service : Service) (made : Made) (request : Message) (notes : Notes)
    → WantsMemory service (Some made) request notes → TellsRule made.before made.entry notes.rule
wanted_told service made request notes (to_reply given) = absurd (some_is_none made given.none_made)
wanted_told service made request notes (to_enter idle) =
    let same : made ≡ idle.idle = (let e = idle.made_is in cc) in
    let entry : made.entry ≡ Idle service.number = ap (λ (m : Made). m.entry) same ∙ idle.entry_is in
    subst (λ e. TellsRule made.before e notes.rule) (sym entry) (ap (λ (n : Notes). n.rule) idle.unsaid.notes_are)

ends_told : (service : Service) (made : Made) (ended : Type 0) (exchange : Exchange) (served : Served) (end : ServeEnd)
    → EndsAs service (Some made) ended exchange served end → TellsRule made.before made.entry served.rule
ends_told service made ended exchange served how.Done is = replies_told service made is.request (notes_told served) is.reply is.replies
ends_told service made ended exchange served how.Stopped is = replies_told service made is.request (notes_told served) is.reply is.replies
ends_told service made ended exchange served how.WriteFault is = replies_told service made is.request (notes_told served) is.reply is.replies
ends_told service made ended exchange served how.Quiet is = absurd (some_is_none made is.2.none_made)
ends_told service made ended exchange served how.ReadFault is = absurd (some_is_none made is.1.none_made)
ends_told service made ended exchange served how.Malformed is = absurd (some_is_none made is.1.none_made)
ends_told service made ended exchange served how.ClockFault is = absurd (some_is_none made is.holds.none_made)
ends_told service made ended exchange served how.NoMemory (inl is) = absurd (some_is_none made is.1.none_made)
ends_told service made ended exchange served how.NoMemory (inr is) = wanted_told service made is.request (notes_told served) is.holds
ends_told service made ended exchange served (how.Worn ticket) is = absurd (some_is_none made is.holds.none_made)

-- of an entry its rule is told
pub served_told : (service : Service) (made : Made) (before after : Connection) (served : Served)
    → IsServed service (Some made) before after served → TellsRule made.before made.entry served.rule
served_told service made before after served is = ends_told service made _ is.exchange served served.how is.ends

-- ---- a gate that was not worn

pub ends_unworn : (service : Service) (made : Made) (ended : Type 0) (exchange : Exchange) (served : Served) (end : ServeEnd)
    → EndsAs service (Some made) ended exchange served end → IsNotWorn end
ends_unworn service made ended exchange served how.Done is = tt
ends_unworn service made ended exchange served how.Stopped is = tt
ends_unworn service made ended exchange served how.WriteFault is = tt
ends_unworn service made ended exchange served how.Quiet is = tt
ends_unworn service made ended exchange served how.ReadFault is = tt
ends_unworn service made ended exchange served how.Malformed is = tt
ends_unworn service made ended exchange served how.ClockFault is = tt
ends_unworn service made ended exchange served how.NoMemory is = tt
ends_unworn service made ended exchange served (how.Worn ticket) is = absurd (some_is_none made is.holds.none_made)

within_unworn : (bound : ℕ) (end : ServeEnd) → bound < worn_at → WornWithin bound end → IsNotWorn end
within_unworn bound (how.Worn ticket) below worn = let low = worn.0 in let high = worn.1 in absurd (omega arith)
within_unworn bound how.Done below worn = tt
within_unworn bound how.Stopped below worn = tt
within_unworn bound how.Quiet below worn = tt
within_unworn bound how.ReadFault below worn = tt
within_unworn bound how.WriteFault below worn = tt
within_unworn bound how.ClockFault below worn = tt
within_unworn bound how.Malformed below worn = tt
within_unworn bound how.NoMemory below worn = tt

-- where fewer tickets were drawn, no job found the gate worn
pub unworn : (service : Service) (history : List Event) (bound : ℕ) (before after : Connection) (served : Served) (place : Option ℕ)
    → bound < worn_at → StandsIn service history bound before after served place → IsNotWorn served.how
unworn service history bound before after served (Some place) below stands =
    ends_unworn service stands.made _ stands.is_served.exchange served served.how stands.is_served.ends
unworn service history bound before after served None below stands = within_unworn bound served.how below stands.worn
