-- A session goes on by one more request, and comes to its end.
use Rattle.std.proofs.Common.{◌≡◌, ℕ, ◌+◌, ◌<◌, ◌≤◌, true, false, ◌||◌, Bool, List, [], ◌∷◌, ◌++◌, length, Option, refl, sym, ap, ◌∙◌, subst, arith, inl}
use Rattle.std.proofs.lemmas.List.{append-nil, append_assoc, length-append}
use Rattle.std.specs.List.{AllByRecursion, list_any}
use Rattle.byte_io.proofs.CountLemmas.{≤-Rose}
use Rattle.byte_io.proofs.StreamLemmas.{consumes_more, appends_more}
use Rattle.munge_types.specs.StandsFor.{Remembered, Stands}
use Rattle.munge_types.specs.declared.history.Event.{Event}
use Rattle.wire_msg.specs.Fits.{IsMessage}
use Rattle.wire_msg.specs.Frame.{IsFramePrefix}
use Rattle.wire_msg.specs.Spelling.{frame_of}
use Rattle.wire_msg.specs.declared.kind.Side.TheVariants.{Requests}
use Rattle.wire_msg.specs.declared.message.Message.{Message}
use Rattle.wire_msg.specs.declared.message.Message.TheVariants.{EncodeRequest, EncodeReply, DecodeRequest, DecodeReply, Stop, Bye}
use Rattle.session_core.specs.Answering.{Answers, Outcome, Own, Run, is_last, joined, nothing_came, nothing_done}
use Rattle.session_core.specs.Reading.{IsLessThanOne, IsNoRequest, broken, cut}
use Rattle.session_core.specs.Requests.{IsRequest, frames}
use Rattle.session_core.specs.RunSoFar.{IsAsked, RunSoFar}
use Rattle.session_core.specs.Session.{Session}
use Rattle.session_core.specs.SessionRan.{Beyond, Leaves, SessionRan, left, request_limit, stopped}
use Rattle.session_core.specs.Things.{CameToEnd, Input, Moves, Things, outside_of, things_of}
use Rattle.session_core.specs.Turn.{HasEnded, IsTurned, Stage, stage_of}
use Rattle.session_core.specs.declared.end.HowEnded.{HowEnded}
use Rattle.session_core.specs.declared.end.HowEnded.TheVariants.{Done, ReadFault, WriteFault, ClockFault, Malformed, Budget, NoMemory}
use Rattle.session_core.proofs.EndLemmas.{read_alone, read_alone_untouched}
use Rattle.session_core.proofs.RequestLemmas.{short_head}
use Rattle.session_core.proofs.StreamLemmas.{consumes_nothing, appends_nothing}

-- joining is by parts, in whatever order the parts are put together
joined_assoc : (a b c : Outcome) → joined (joined a b) c ≡ joined a (joined b c)
joined_assoc a b c =
    let with_readings : List ℕ → Outcome = λ r. record { readings = r; replies = (a.replies ++ b.replies) ++ c.replies; own = c.own } in
    let with_replies : List ℕ → Outcome = λ r. record { readings = a.readings ++ (b.readings ++ c.readings); replies = r; own = c.own } in
    ap with_readings (append_assoc a.readings b.readings c.readings) ∙ ap with_replies (append_assoc a.replies b.replies c.replies)

joined_nothing : (a : Outcome) (own : Own) → joined (nothing_came own) a ≡ a
joined_nothing a own = refl

nothing_joined : (a : Outcome) → joined a (nothing_came a.own) ≡ a
nothing_joined a =
    let with_readings : List ℕ → Outcome = λ r. record { readings = r; replies = a.replies ++ []; own = a.own } in
    let with_replies : List ℕ → Outcome = λ r. record { readings = a.readings; replies = r; own = a.own } in
    ap with_readings (append-nil a.readings) ∙ ap with_replies (append-nil a.replies)

-- a run goes on by one more request
pub run_more : (session : Session) (own : Own) (requests : List Message) (so_far : Outcome) (request : Message) (one : Outcome)
    → Run session own requests so_far → Answers session so_far.own request one
    → Run session own (requests ++ request ∷ []) (joined so_far one)
run_more session own [] so_far request one run answers =
    record {
      first = one;
      answers = subst (λ (o : Outcome). Answers session o.own request one) run answers;
      others = nothing_came one.own;
      later = refl;
      outcome_is = ap (λ (o : Outcome). joined o one) run ∙ joined_nothing one own ∙ sym (nothing_joined one);
    }
run_more session own (r ∷ requests) so_far request one run answers =
    record {
      first = run.first;
      answers = run.answers;
      others = joined run.others one;
      later = run_more session run.first.own requests run.others request one run.later
          (subst (λ (o : Outcome). Answers session o.own request one) run.outcome_is answers);
      outcome_is = ap (λ (o : Outcome). joined o one) run.outcome_is ∙ joined_assoc run.first run.others one;
    }

-- one more request behind the others
pub frames_more : (requests : List Message) (request : Message) → frames (requests ++ request ∷ []) ≡ frames requests ++ frame_of request
frames_more [] request = append-nil (frame_of request)
frames_more (r ∷ requests) request =
    ap (λ l. frame_of r ++ l) (frames_more requests request) ∙ sym (append_assoc (frame_of r) (frames requests) (frame_of request))

all_more : (P : Message → Type 0) (requests : List Message) (request : Message) → AllByRecursion P requests → P request → AllByRecursion P (requests ++ request ∷ [])
all_more P [] request all one = (one, tt)
all_more P (r ∷ requests) request all one = (all.0, all_more P requests request all.1 one)

-- a sum of truths that is false goes on so, where the later part does
or_more : (b rest rest' : Bool) → (rest ≡ false → rest' ≡ false) → (b || rest) ≡ false → (b || rest') ≡ false
or_more true rest rest' later is = is
or_more false rest rest' later is = later is

any_more : (test : Message → Bool) (requests : List Message) (request : Message) → list_any test requests ≡ false → test request ≡ false → list_any test (requests ++ request ∷ []) ≡ false
any_more test [] request none one = ap (λ b. b || false) one
any_more test (r ∷ requests) request none one =
    or_more (test r) (list_any test requests) (list_any test (requests ++ request ∷ [])) (λ later. any_more test requests request later one) none

-- one move after another is a move
pub moves_more : (a b c : Things) (read read' written written' readings readings' : List ℕ) (history history' : List Event)
    → Moves a b read written readings history → Moves b c read' written' readings' history'
    → Moves a c (read ++ read') (written ++ written') (readings ++ readings') history'
moves_more a b c read read' written written' readings readings' history history' first second =
    record {
      reads = consumes_more _ _ _ read read' first.reads second.reads;
      ends_stay = omega (arith, first.ends_stay, second.ends_stay);
      writes = appends_more _ _ _ written written' first.writes second.writes;
      takes = consumes_more _ _ _ readings readings' first.takes second.takes;
      stands = second.stands;
    }

-- nothing was answered yet
pub run_none : (session : Session) (things : Things) → Stands things.replay session.base → RunSoFar session things things 0 0 (stage_of 0 0)
run_none session things stands =
    record {
      requests = [];
      outcome = nothing_came nothing_done;
      count = refl;
      fit = tt;
      goes_on = refl;
      run = refl;
      moves = record {
        reads = consumes_nothing things.outside.input.left;
        ends_stay = omega arith;
        writes = appends_nothing things.outside.taken;
        takes = consumes_nothing things.outside.readings;
        stands = subst (λ h. Stands things.replay h) (sym (append-nil session.base)) stands;
      };
      begins_is = refl;
      is_at = record { entries_are = refl; place_is = refl };
    }

begins_more : (session : Session) (own : Own) (before now after : Things) (answered begins begins' : ℕ) (stage stage' : Stage) (over : Bool)
    → (so_far : RunSoFar session before now answered begins stage) (one : IsTurned session own now after begins begins' over stage')
    → begins' ≡ length (frames (so_far.requests ++ one.request ∷ []))
begins_more session own before now after answered begins begins' stage stage' over so_far one =
    let whole = frames_more so_far.requests one.request in
    omega (arith, one.begins_is, so_far.begins_is, ap length whole, length-append (frames so_far.requests) (frame_of one.request))

-- one more request was answered
pub so_far_more : (session : Session) (before now after : Things) (answered begins begins' : ℕ) (stage stage' : Stage) (over : Bool)
    → (so_far : RunSoFar session before now answered begins stage) → IsTurned session so_far.outcome.own now after begins begins' over stage' → over ≡ false
    → RunSoFar session before after (answered + 1) begins' stage'
so_far_more session before now after answered begins begins' stage stage' over so_far one goes_on =
    let whole = frames_more so_far.requests one.request in
    record {
      requests = so_far.requests ++ one.request ∷ [];
      outcome = joined so_far.outcome one.outcome;
      count = length-append so_far.requests (one.request ∷ []) ∙ omega (arith, so_far.count);
      fit = all_more IsRequest so_far.requests one.request so_far.fit one.fits;
      goes_on = any_more (is_last session.terms.who) so_far.requests one.request so_far.goes_on (sym one.over_is ∙ goes_on);
      run = run_more session nothing_done so_far.requests so_far.outcome one.request one.outcome so_far.run one.answers;
      moves = subst (λ r. Moves before after r (so_far.outcome.replies ++ one.outcome.replies) (so_far.outcome.readings ++ one.outcome.readings) (session.base ++ one.outcome.own.events)) (sym whole)
          (moves_more before now after _ _ _ _ _ _ _ _ so_far.moves one.moves);
      begins_is = begins_more session so_far.outcome.own before now after answered begins begins' stage stage' over so_far one;
      is_at = one.is_at;
    }

-- a request that ends the session is Stop, of a caller who has control
last_is_stop : (session : Session) (request : Message) → is_last session.terms.who request ≡ true → (request ≡ Stop) × (session.terms.who.control ≡ true)
last_is_stop session Stop is = (refl, is)
last_is_stop session (EncodeRequest ask) is = cc
last_is_stop session (DecodeRequest text) is = cc
last_is_stop session (EncodeReply said) is = cc
last_is_stop session (DecodeReply said) is = cc
last_is_stop session (Bye status) is = cc

-- the last request was answered, by which the session was stopped
pub so_far_stopped : (session : Session) (before now after : Things) (answered begins begins' : ℕ) (stage stage' : Stage) (over : Bool)
    → answered < request_limit
    → (so_far : RunSoFar session before now answered begins stage) → IsTurned session so_far.outcome.own now after begins begins' over stage' → over ≡ true
    → SessionRan session (record { answered = answered + 1; how = Done }) before after
so_far_stopped session before now after answered begins begins' stage stage' over within so_far one is_over =
    let whole = frames_more so_far.requests one.request in
    let last = last_is_stop session one.request (sym one.over_is ∙ is_over) in
    let moves = moves_more before now after _ _ _ _ _ _ _ _ so_far.moves one.moves in
    let replies = so_far.outcome.replies ++ one.outcome.replies in
    let readings = so_far.outcome.readings ++ one.outcome.readings in
    record {
      requests = so_far.requests ++ one.request ∷ [];
      outcome = joined so_far.outcome one.outcome;
      answered = length-append so_far.requests (one.request ∷ []) ∙ omega (arith, so_far.count);
      within = omega arith;
      fit = all_more IsRequest so_far.requests one.request so_far.fit one.fits;
      run = run_more session nothing_done so_far.requests so_far.outcome one.request one.outcome so_far.run one.answers;
      beyond = read_alone [] one.outcome.own.events;
      ends = stopped (record {
        is_stopped = record { before = so_far.requests; requests_are = ap (λ r. so_far.requests ++ r ∷ []) last.0; goes_on = so_far.goes_on; control = last.1 };
        is_done = refl;
        read_none = refl;
        untouched = read_alone_untouched [] one.outcome.own.events;
      });
      at_limit = λ all. refl;
      moves =
          let read_is : frames so_far.requests ++ frame_of one.request ≡ frames (so_far.requests ++ one.request ∷ []) ++ [] = sym whole ∙ sym (append-nil _) in
          subst (λ r. Moves before after r (replies ++ []) (readings ++ []) (session.base ++ one.outcome.own.events)) read_is
          (subst (λ r. Moves before after (frames so_far.requests ++ frame_of one.request) r (readings ++ []) (session.base ++ one.outcome.own.events)) (sym (append-nil replies))
          (subst (λ r. Moves before after (frames so_far.requests ++ frame_of one.request) replies r (session.base ++ one.outcome.own.events)) (sym (append-nil readings)) moves));
    }

came_since : (a b c : Input) → a.ends ≤ b.ends → CameToEnd b c → CameToEnd a c
came_since a b c stay came = record { found = ≤-Rose _ _ _ stay came.found; nothing_left = came.nothing_left }

no_request_since : {A B : Type 0} → (A → B) → (bytes : List ℕ) → IsNoRequest A bytes → IsNoRequest B bytes
no_request_since since bytes (broken size none) = broken size none
no_request_since since bytes (cut ended some less) = cut (since ended) some less

-- what was left when the input had ended since a later moment was left when it had since an earlier one
pub leaves_since : {A B : Type 0} (session : Session) (own : Own) (answered begins : ℕ) (how : HowEnded) (beyond : Beyond) → (A → B)
    → Leaves session own answered begins A how beyond → Leaves session own answered begins B how beyond
leaves_since session own answered begins Done beyond since leaves = (leaves.0, since leaves.1, leaves.2)
leaves_since session own answered begins ReadFault beyond since leaves = leaves
leaves_since session own answered begins WriteFault beyond since leaves = leaves
leaves_since session own answered begins ClockFault beyond since leaves = leaves
leaves_since session own answered begins (Malformed offset) beyond since leaves = (leaves.0, no_request_since since beyond.read leaves.1, leaves.2)
leaves_since session own answered begins Budget beyond since leaves = leaves
leaves_since session own answered begins NoMemory beyond since leaves = leaves

-- the session ended before the next request was answered
pub so_far_ended : (session : Session) (before now after : Things) (answered begins : ℕ) (stage : Stage) (how : HowEnded)
    → answered < request_limit
    → (so_far : RunSoFar session before now answered begins stage) → HasEnded session so_far.outcome.own now after begins how
    → SessionRan session (record { answered = answered; how = how }) before after
so_far_ended session before now after answered begins stage how within so_far end =
    let own = so_far.outcome.own in
    let ended = CameToEnd before.outside.input after.outside.input in
    record {
      requests = so_far.requests;
      outcome = so_far.outcome;
      answered = so_far.count;
      within = omega arith;
      fit = so_far.fit;
      run = so_far.run;
      beyond = end.beyond;
      ends = left so_far.goes_on
          (subst (λ n. Leaves session own n (length (frames so_far.requests)) ended how end.beyond) (sym so_far.count)
          (subst (λ b. Leaves session own answered b ended how end.beyond) so_far.begins_is
          (leaves_since session own answered begins how end.beyond (came_since before.outside.input now.outside.input after.outside.input so_far.moves.ends_stay) (end.leaves answered))));
      at_limit = λ all. absurd (omega (arith, all));
      moves = moves_more before now after _ _ _ _ _ _ _ _ so_far.moves end.moves;
    }

stop_fits : IsMessage Requests Stop
stop_fits = record { sent_by = refl; fits = tt; within = omega arith }

-- no bytes are a prefix of a request
pub nothing_is_prefix : IsFramePrefix Requests []
nothing_is_prefix = record { rest = frame_of Stop; completed = record { message = Stop; is_message = stop_fits; spelled = refl } }

-- nothing was begun: there was no memory to begin with
pub ended_at_once : (session : Session) (things : Things) → Stands things.replay session.base
    → SessionRan session (record { answered = 0; how = NoMemory }) things things
ended_at_once session things stands =
    let stands_on : Stands things.replay (session.base ++ []) = subst (λ h. Stands things.replay h) (sym (append-nil session.base)) stands in
    record {
      requests = [];
      outcome = nothing_came nothing_done;
      answered = refl;
      within = omega arith;
      fit = tt;
      run = refl;
      beyond = read_alone [] [];
      ends = left refl (nothing_is_prefix, inl (read_alone_untouched [] []));
      at_limit = λ all. absurd (omega (arith, all));
      moves = record {
        reads = consumes_nothing things.outside.input.left;
        ends_stay = omega arith;
        writes = appends_nothing things.outside.taken;
        takes = consumes_nothing things.outside.readings;
        stands = stands_on;
      };
    }

-- no byte is no request
nothing_is_less : IsLessThanOne []
nothing_is_less = short_head [] (omega arith)

-- what the session left when the input was asked for one byte
asked_leaves : (session : Session) (own : Own) (begins : ℕ) (how : HowEnded) (before after : Input) (ended : Type 0)
    → (CameToEnd before after → ended) → (asked : IsAsked how before after)
    → Leaves session own request_limit begins ended how (read_alone asked.asked.bytes own.events)
asked_leaves session own begins Done before after ended since asked =
    (asked.asked.holds, since (asked.ended refl), read_alone_untouched asked.asked.bytes own.events)
asked_leaves session own begins ReadFault before after ended since asked =
    (subst IsLessThanOne (sym asked.asked.holds) nothing_is_less, read_alone_untouched asked.asked.bytes own.events)
asked_leaves session own begins Budget before after ended since asked =
    (refl, asked.asked.holds, read_alone_untouched asked.asked.bytes own.events)
asked_leaves session own begins WriteFault before after ended since asked = absurd asked.asked.holds
asked_leaves session own begins ClockFault before after ended since asked = absurd asked.asked.holds
asked_leaves session own begins (Malformed place) before after ended since asked = absurd asked.asked.holds
asked_leaves session own begins NoMemory before after ended since asked = absurd asked.asked.holds

-- the session answered as many requests as it may
pub so_far_over : (session : Session) (before : Things) (now after : Input) (taken readings : Option (List ℕ)) (state : Remembered) (begins : ℕ) (stage : Stage) (how : HowEnded)
    → (so_far : RunSoFar session before (things_of (outside_of now taken readings) state) request_limit begins stage)
    → now.ends ≤ after.ends → IsAsked how now after
    → SessionRan session (record { answered = request_limit; how = how }) before (things_of (outside_of after taken readings) state)
so_far_over session before now after taken readings state begins stage how so_far stay asked =
    let own = so_far.outcome.own in
    let ended = CameToEnd before.outside.input after in
    record {
      requests = so_far.requests;
      outcome = so_far.outcome;
      answered = so_far.count;
      within = omega arith;
      fit = so_far.fit;
      run = so_far.run;
      beyond = read_alone asked.asked.bytes own.events;
      ends = left so_far.goes_on
          (subst (λ n. Leaves session own n (length (frames so_far.requests)) ended how (read_alone asked.asked.bytes own.events)) (sym so_far.count)
          (asked_leaves session own (length (frames so_far.requests)) how now after ended (came_since before.outside.input now after so_far.moves.ends_stay) asked));
      at_limit = λ all. asked.asked.holds;
      moves = moves_more before (things_of (outside_of now taken readings) state) (things_of (outside_of after taken readings) state)
          _ asked.asked.bytes _ [] _ [] _ (session.base ++ own.events) so_far.moves
          (record { reads = asked.asked.consumed; ends_stay = stay; writes = appends_nothing taken; takes = consumes_nothing readings; stands = so_far.moves.stands });
    }
