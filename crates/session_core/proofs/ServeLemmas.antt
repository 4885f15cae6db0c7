-- What comes of a request on a gate, for each way that it can go.
use Rattle.std.proofs.Common.{◌≡◌, ℕ, ◌+◌, ◌-◌, ◌≤◌, Bool, List, [], ◌∷◌, ◌++◌, length, Result, Ok, Err, refl, sym, ap, ◌∙◌, subst, arith, inl, inr}
use Rattle.std.proofs.lemmas.List.{append-nil, length-append}
use Rattle.std.specs.Io.KnownBytes.{Appends, Consumes, Keeps}
use Rattle.std.specs.declared.option.Option.{Option}
use Rattle.std.specs.declared.option.Option.TheVariants.{None, Some}
use Rattle.munge_types.specs.History.{verdict}
use Rattle.munge_types.specs.declared.history.Event.{Event}
use Rattle.munge_types.specs.declared.history.Event.TheVariants.{Admit, Idle}
use Rattle.munge_types.specs.declared.history.Verdict.{Verdict}
use Rattle.munge_types.specs.declared.history.Verdict.TheVariants.{Accepted}
use Rattle.cred_open.specs.Credential.{Credential, pair_of}
use Rattle.decode_rules.specs.DecodeReply.{unsaid_frame, verdict_answer}
use Rattle.decode_rules.specs.Finding.{Ready}
use Rattle.decode_rules.specs.Prepared.{IsReady}
use Rattle.decode_rules.specs.Reply.{Answer, Pending}
use Rattle.replay_gate.specs.Answers.{Answers, Idles}
use Rattle.replay_gate.specs.PassState.{PassState}
use Rattle.replay_gate.specs.declared.refused.Admitted.{Admitted}
use Rattle.wire_msg.specs.Spelling.{frame_of}
use Rattle.wire_msg.specs.declared.message.Message.{Message}
use Rattle.wire_msg.specs.declared.message.Message.TheVariants.{DecodeRequest}
use Rattle.session_core.proofs.StreamLemmas.{appends_nothing, kept_consumes}
use Rattle.session_core.specs.Answering.{is_last}
use Rattle.session_core.specs.Connection.{Connection, connection_of}
use Rattle.session_core.specs.OnGate.{LeavesPass, MakesNoEntry, Serves}
use Rattle.session_core.specs.Partial.{count_of, end_of}
use Rattle.session_core.specs.Reached.{ComesTo, KeepsPass, Peer, Reaches, ReachesEntry, SendsWhat, Tells, notes_reached}
use Rattle.session_core.specs.Reading.{KeepsEnds, ReadsNone}
use Rattle.session_core.specs.Requests.{IsRequest}
use Rattle.session_core.specs.Service.{Made, Service}
use Rattle.session_core.specs.Serving.{EndsAs, FindsEnd, IsHeard, IsServed, IsUnheard, Rings, notes_told}
use Rattle.session_core.specs.Things.{CameToEnd, Input}
use Rattle.session_core.specs.Unreplied.{to_enter}
use Rattle.session_core.specs.declared.reached.Reached.{Reached}
use Rattle.session_core.specs.declared.reached.Unreplied.{Unreplied}
use Rattle.session_core.specs.declared.reached.Unreplied.TheVariants as cause
use Rattle.session_core.specs.declared.request.Heard.{Heard}
use Rattle.session_core.specs.declared.request.Unread.{Unread}
use Rattle.session_core.specs.declared.request.Unread.TheVariants.{Ended, Malformed, ReadFault, NoMemory}
use Rattle.session_core.specs.declared.served.ServeEnd.{ServeEnd}
use Rattle.session_core.specs.declared.served.ServeEnd.TheVariants as how
use Rattle.session_core.specs.declared.served.Served.{Served}

-- a decode request that was answered with an entry
abbrev pub replied_at : Answer → (moment place : ℕ) → Reached
replied_at reply moment place =
    record { reply = Ok reply.bytes; moment = Some moment; rule = Some reply.rule; place = Some place; drawn = None }

-- a decode request that the gate had no memory for
abbrev pub idle_at : (moment place : ℕ) → Reached
idle_at moment place = record { reply = Err cause.NoMemory; moment = Some moment; rule = None; place = Some place; drawn = None }

-- a credential that was ready was looked up on the gate, and its reply was completed
pub entered : (service : Service) (old new : PassState) (moment : ℕ) (text : List ℕ) (ready : Pending) (did : Admitted) (reply : Answer)
    → service.number ≡ old.number → IsReady service.terms moment text ready → Answers old new ready.pair moment did
    → ((credential : Credential) → ready.frame ≡ unsaid_frame credential → reply ≡ verdict_answer did.verdict did.place credential)
    → ReachesEntry service old new (DecodeRequest text) (replied_at reply moment did.place) did.place
entered service old new moment text ready did reply number is_ready answers completed =
    let credential = is_ready.credential in
    let history = answers.before in
    let entry = Admit old.number ready.pair moment in
    let pair_is = ap (λ (p : Pending). p.pair) is_ready.ready_is in
    let due : reply ≡ verdict_answer (verdict history (pair_of service.terms.settings.max_ttl credential) moment) (length history) credential =
    completed credential (ap (λ (p : Pending). p.frame) is_ready.ready_is)
    ∙ ap (λ v. verdict_answer v did.place credential) answers.verdict_is
    ∙ ap (λ p. verdict_answer (verdict history p moment) did.place credential) pair_is
    ∙ ap (λ n. verdict_answer (verdict history (pair_of service.terms.settings.max_ttl credential) moment) n credential) answers.place_is in
    record {
      made = record { before = history; entry = entry };
      enters = answers.enters;
      place_is = answers.place_is;
      by = sym number;
      comes = record {
        moment = moment;
        finding = Ready credential;
        finds = is_ready.finds;
        look_up = ap (λ n. Admit n ready.pair moment) (sym number) ∙ ap (λ p. Admit service.number p moment) pair_is;
        reply_is = ap (λ (a : Answer). a.bytes) due;
        notes_are = ap (λ (a : Answer). record { moment = Some moment; rule = Some a.rule; drawn = None }) due;
      };
    }

-- the gate had no memory for a credential that was ready
pub idled : (service : Service) (old new : PassState) (moment : ℕ) (text : List ℕ) (ready : Pending) (seen : ℕ)
    → service.number ≡ old.number → IsReady service.terms moment text ready → Idles old new ready.pair moment
    → seen ≡ length new.seen
    → ReachesEntry service old new (DecodeRequest text) (idle_at moment (seen - 1)) (seen - 1)
idled service old new moment text ready seen number is_ready idles seen_is =
    let credential = is_ready.credential in
    let history = idles.before in
    let pair_is = ap (λ (p : Pending). p.pair) is_ready.ready_is in
    let after = ap (λ (p : PassState). length p.seen) idles.enters.after_is in
    let one_more = length-append history (Idle old.number ∷ []) in
    record {
      made = record { before = history; entry = Idle old.number };
      enters = idles.enters;
      place_is = omega (arith, seen_is, after, one_more);
      by = sym number;
      comes = to_enter (record {
        moment = moment;
        credential = credential;
        unsaid = record { text = text; request_is = refl; finds = is_ready.finds; notes_are = refl };
        idle = record { before = history; entry = Idle old.number };
        made_is = refl;
        entry_is = ap (λ n. Idle n) (sym number);
        wanted = subst (λ p. verdict history p moment ≡ Accepted) pair_is idles.wanted;
      });
    }

-- a pass of which nothing was asked is kept
keeps_same : (pass : PassState) (reply : Result (List ℕ) Unreplied) → ((ticket : ℕ) → reply ≡ Err (cause.Worn ticket) → ⊥) → KeepsPass reply pass pass
keeps_same pass (Ok reply) unworn = refl
keeps_same pass (Err cause.ClockFault) unworn = refl
keeps_same pass (Err cause.NoMemory) unworn = refl
keeps_same pass (Err (cause.Worn ticket)) unworn = absurd (unworn ticket refl)

-- a request that asks the gate nothing
pub reaches_none : (service : Service) (pass : PassState) (request request' : Message) (reached : Reached)
    → request' ≡ request → reached.place ≡ None → ((ticket : ℕ) → reached.reply ≡ Err (cause.Worn ticket) → ⊥)
    → ComesTo service None request (notes_reached reached) reached.reply
    → Reaches service pass pass request' reached reached.place
reaches_none service pass request request' reached same nowhere unworn comes =
    subst (λ place. Reaches service pass pass request' reached place) (sym nowhere)
    (record {
      keeps = keeps_same pass reached.reply unworn;
      comes = subst (λ r. ComesTo service None r (notes_reached reached) reached.reply) (sym same) comes;
    })

-- ---- what is sent

kept_appends : (old new : Option (List ℕ)) → Keeps old new → Appends old new []
kept_appends None new kept = tt
kept_appends (Some xs) None kept = absurd kept
kept_appends (Some xs) (Some ys) kept = kept ∙ sym (append-nil xs)

same_appends : (old new : Option (List ℕ)) → new ≡ old → Appends old new []
same_appends old new same = subst (λ n. Appends old n []) (sym same) (appends_nothing old)

-- what was written of a reply, and how the call ended so
record SentAs (service : Service) (made : Option Made) (ended : Type 0) (read : List ℕ) (served : Served) (before after : Peer) (end : ServeEnd) : Type 0 where
  written : List ℕ
  appended : Appends before.taken after.taken written
  ends : EndsAs service made ended (record { read = read; written = written }) served end
  rings : Rings end before.rings after.rings

sent_as : (service : Service) (made : Option Made) (ended : Type 0) (read : List ℕ) (served : Served) (request : Message) (reply : Result (List ℕ) Unreplied)
    (stops : Bool) (end : ServeEnd) (before after : Peer) → stops ≡ is_last service.terms.who request → IsHeard read served request
    → ComesTo service made request (notes_told served) reply → SendsWhat reply stops before after end
    → SentAs service made ended read served before after end
sent_as service made ended read served request (Ok reply) stops how.Done before after stop heard comes sends =
    record {
      written = reply;
      appended = sends.0;
      ends = record { request = request; heard = heard; reply = reply; replies = comes; sent = (refl, sym stop ∙ sends.1) };
      rings = sends.2;
    }
sent_as service made ended read served request (Ok reply) stops how.Stopped before after stop heard comes sends =
    record {
      written = reply;
      appended = sends.0;
      ends = record { request = request; heard = heard; reply = reply; replies = comes; sent = (refl, sym stop ∙ sends.1) };
      rings = sends.2;
    }
sent_as service made ended read served request (Ok reply) stops how.WriteFault before after stop heard comes sends =
    record {
      written = sends.written;
      appended = sends.appended;
      ends = record { request = request; heard = heard; reply = reply; replies = comes; sent = sends.front };
      rings = sends.quiet;
    }
sent_as service made ended read served request (Ok reply) stops how.Quiet before after stop heard comes sends = absurd sends
sent_as service made ended read served request (Ok reply) stops how.ReadFault before after stop heard comes sends = absurd sends
sent_as service made ended read served request (Ok reply) stops how.ClockFault before after stop heard comes sends = absurd sends
sent_as service made ended read served request (Ok reply) stops how.Malformed before after stop heard comes sends = absurd sends
sent_as service made ended read served request (Ok reply) stops how.NoMemory before after stop heard comes sends = absurd sends
sent_as service made ended read served request (Ok reply) stops (how.Worn ticket) before after stop heard comes sends = absurd sends
sent_as service made ended read served request (Err cause.ClockFault) stops end before after stop heard comes sends =
    subst (SentAs service made ended read served before after) (sym sends.0)
    (record {
      written = [];
      appended = kept_appends before.taken after.taken sends.1.0;
      ends = record { request = request; heard = heard; holds = comes; none_written = refl };
      rings = sends.1.1;
    })
sent_as service made ended read served request (Err cause.NoMemory) stops end before after stop heard comes sends =
    subst (SentAs service made ended read served before after) (sym sends.0)
    (record {
      written = [];
      appended = kept_appends before.taken after.taken sends.1.0;
      ends = inr (record { request = request; heard = heard; holds = comes; none_written = refl });
      rings = sends.1.1;
    })
sent_as service made ended read served request (Err (cause.Worn ticket)) stops end before after stop heard comes sends =
    subst (SentAs service made ended read served before after) (sym sends.0)
    (record {
      written = [];
      appended = kept_appends before.taken after.taken sends.1.0;
      ends = record { request = request; heard = heard; holds = comes; none_written = refl };
      rings = sends.1.1;
    })

-- a reply without an entry leaves the pass as it was
leaves_same : (reply : Result (List ℕ) Unreplied) (stops : Bool) (end : ServeEnd) (before after : Peer) (old new : PassState)
    → SendsWhat reply stops before after end → KeepsPass reply old new → LeavesPass end old new
leaves_same (Ok reply) stops how.Done before after old new sends keeps = keeps
leaves_same (Ok reply) stops how.Stopped before after old new sends keeps = keeps
leaves_same (Ok reply) stops how.WriteFault before after old new sends keeps = keeps
leaves_same (Ok reply) stops how.Quiet before after old new sends keeps = absurd sends
leaves_same (Ok reply) stops how.ReadFault before after old new sends keeps = absurd sends
leaves_same (Ok reply) stops how.ClockFault before after old new sends keeps = absurd sends
leaves_same (Ok reply) stops how.Malformed before after old new sends keeps = absurd sends
leaves_same (Ok reply) stops how.NoMemory before after old new sends keeps = absurd sends
leaves_same (Ok reply) stops (how.Worn ticket) before after old new sends keeps = absurd sends
leaves_same (Err cause.ClockFault) stops end before after old new sends keeps = subst (λ e. LeavesPass e old new) (sym sends.0) keeps
leaves_same (Err cause.NoMemory) stops end before after old new sends keeps = subst (λ e. LeavesPass e old new) (sym sends.0) keeps
leaves_same (Err (cause.Worn ticket)) stops end before after old new sends keeps = subst (λ e. LeavesPass e old new) (sym sends.0) keeps

-- no end was found where a request came
sent_found : (reply : Result (List ℕ) Unreplied) (stops : Bool) (end : ServeEnd) (before after : Peer) (ends ends' : ℕ)
    → SendsWhat reply stops before after end → ends' ≡ ends → FindsEnd end ends ends'
sent_found (Ok reply) stops how.Done before after ends ends' sends same = same
sent_found (Ok reply) stops how.Stopped before after ends ends' sends same = same
sent_found (Ok reply) stops how.WriteFault before after ends ends' sends same = same
sent_found (Ok reply) stops how.Quiet before after ends ends' sends same = absurd sends
sent_found (Ok reply) stops how.ReadFault before after ends ends' sends same = absurd sends
sent_found (Ok reply) stops how.ClockFault before after ends ends' sends same = absurd sends
sent_found (Ok reply) stops how.Malformed before after ends ends' sends same = absurd sends
sent_found (Ok reply) stops how.NoMemory before after ends ends' sends same = absurd sends
sent_found (Ok reply) stops (how.Worn ticket) before after ends ends' sends same = absurd sends
sent_found (Err cause.ClockFault) stops end before after ends ends' sends same = subst (λ e. FindsEnd e ends ends') (sym sends.0) same
sent_found (Err cause.NoMemory) stops end before after ends ends' sends same = subst (λ e. FindsEnd e ends ends') (sym sends.0) same
sent_found (Err (cause.Worn ticket)) stops end before after ends ends' sends same = subst (λ e. FindsEnd e ends ends') (sym sends.0) same

-- a request that was read, answered with or without this entry, and of which the reply was sent
heard_served : (service : Service) (made : Option Made) (before after : Input) (peer peer' : Peer) (request : Message) (size : ℕ) (reached : Reached) (served : Served)
    → IsRequest request → Consumes before.left after.left (frame_of request) → after.ends ≡ before.ends → size ≡ length (frame_of request)
    → Tells request size reached served → SendsWhat reached.reply (is_last service.terms.who request) peer peer' served.how
    → ComesTo service made request (notes_reached reached) reached.reply
    → IsServed service made (connection_of before peer.taken peer.rings) (connection_of after peer'.taken peer'.rings) served
heard_served service made before after peer peer' request size reached served fits read stays size_is tells sends comes =
    let heard : IsHeard (frame_of request) served request = record { fits = fits; read_is = refl; kind_is = tells.kind_is } in
    let told = subst (λ notes. ComesTo service made request notes reached.reply) (sym tells.notes_are) comes in
    let sent = sent_as service made (CameToEnd before after) (frame_of request) served request reached.reply (is_last service.terms.who request) served.how peer peer'
    refl heard told sends in
    record {
      exchange = record { read = frame_of request; written = sent.written };
      consumed = read;
      counted = sym size_is ∙ sym tells.read_is;
      found = sent_found reached.reply (is_last service.terms.who request) served.how peer peer' before.ends after.ends sends stays;
      appended = sent.appended;
      ends = sent.ends;
      rings = sent.rings;
    }

reached_serves : (service : Service) (old new : PassState) (before after : Input) (peer peer' : Peer) (request : Message) (size : ℕ) (reached : Reached) (served : Served) (place : Option ℕ)
    → IsRequest request → Consumes before.left after.left (frame_of request) → after.ends ≡ before.ends → size ≡ length (frame_of request)
    → Tells request size reached served → SendsWhat reached.reply (is_last service.terms.who request) peer peer' served.how
    → Reaches service old new request reached place
    → Serves service old new (connection_of before peer.taken peer.rings) (connection_of after peer'.taken peer'.rings) served place
reached_serves service old new before after peer peer' request size reached served (Some place) fits read stays size_is tells sends reaches =
    record {
      made = reaches.made;
      enters = reaches.enters;
      place_is = reaches.place_is;
      by = reaches.by;
      is_served = heard_served service (Some reaches.made) before after peer peer' request size reached served fits read stays size_is tells sends reaches.comes;
    }
reached_serves service old new before after peer peer' request size reached served None fits read stays size_is tells sends reaches =
    record {
      leaves = leaves_same reached.reply (is_last service.terms.who request) served.how peer peer' old new sends reaches.keeps;
      is_served = heard_served service None before after peer peer' request size reached served fits read stays size_is tells sends reaches.comes;
    }

pub heard_serves : (service : Service) (old new : PassState) (before after : Input) (peer peer' : Peer) (request : Message) (size : ℕ) (reached : Reached) (served : Served)
    → IsRequest request → Consumes before.left after.left (frame_of request) → after.ends ≡ before.ends → size ≡ length (frame_of request)
    → Tells request size reached served → SendsWhat reached.reply (is_last service.terms.who request) peer peer' served.how
    → Reaches service old new request reached reached.place
    → Serves service old new (connection_of before peer.taken peer.rings) (connection_of after peer'.taken peer'.rings) served served.place
heard_serves service old new before after peer peer' request size reached served fits read stays size_is tells sends reaches =
    subst (Serves service old new (connection_of before peer.taken peer.rings) (connection_of after peer'.taken peer'.rings) served) (sym tells.place_is)
    (reached_serves service old new before after peer peer' request size reached served reached.place fits read stays size_is tells sends reaches)

-- ---- no request came

abbrev pub unheard_of : Unread → Served
unheard_of unread =
    record { how = end_of unread; kind = None; read = count_of unread; moment = None; rule = None; place = None; drawn = None }

is_unheard : (read : List ℕ) (unread : Unread) → IsUnheard None (record { read = read; written = [] }) (unheard_of unread)
is_unheard read unread = record { none_made = refl; none_written = refl; no_kind = refl; notes_are = refl }

pub unheard_serves : (service : Service) (pass : PassState) (unread : Unread) (before after : Input) (taken taken' : Option (List ℕ)) (rings rings' : ℕ)
    → ReadsNone unread before after → KeepsEnds {T = Heard} (Err unread) before.ends after.ends → taken' ≡ taken → rings' ≡ rings
    → MakesNoEntry service pass pass (connection_of before taken rings) (connection_of after taken' rings') (unheard_of unread)
unheard_serves service pass Ended before after taken taken' rings rings' none stays same quiet =
    record {
      leaves = refl;
      is_served = record {
        exchange = record { read = []; written = [] };
        consumed = kept_consumes before.left after.left none.0;
        counted = refl;
        found = stays;
        appended = same_appends taken taken' same;
        ends = (refl, none.1, is_unheard [] Ended);
        rings = quiet;
      };
    }
unheard_serves service pass (Malformed count) before after taken taken' rings rings' none stays same quiet =
    record {
      leaves = refl;
      is_served = record {
        exchange = record { read = none.bytes; written = [] };
        consumed = none.consumed;
        counted = none.holds.0;
        found = stays;
        appended = same_appends taken taken' same;
        ends = (none.holds.1, is_unheard none.bytes (Malformed count));
        rings = quiet;
      };
    }
unheard_serves service pass (ReadFault count) before after taken taken' rings rings' none stays same quiet =
    record {
      leaves = refl;
      is_served = record {
        exchange = record { read = none.bytes; written = [] };
        consumed = none.consumed;
        counted = none.holds.0;
        found = stays;
        appended = same_appends taken taken' same;
        ends = (none.holds.1, is_unheard none.bytes (ReadFault count));
        rings = quiet;
      };
    }
unheard_serves service pass (NoMemory count) before after taken taken' rings rings' none stays same quiet =
    record {
      leaves = refl;
      is_served = record {
        exchange = record { read = none.bytes; written = [] };
        consumed = none.consumed;
        counted = none.holds.0;
        found = stays;
        appended = same_appends taken taken' same;
        ends = inl (none.holds.1, is_unheard none.bytes (NoMemory count));
        rings = quiet;
      };
    }
