-- Nothing but want of memory and faults keeps remunge from its totals.
use Rattle.std.proofs.Common.{◌≡◌, ◌∙◌, ℕ, ◌+◌, ◌-◌, ◌≤◌, ◌⊎◌, suc, List, [], ◌∷◌, Option, None, Some, Bool, true, false, length, sym, ap, subst, inl, inr, arith}
use Rattle.byte_io.specs.TakesFirst.{TakesFirst}
use Rattle.clap.specs.Words.{Text}
use Rattle.wire_msg.specs.declared.message.DecodeSaid.{DecodeSaid}
use Rattle.wire_msg.specs.declared.message.EncodeSaid.{EncodeSaid}
use Rattle.wire_msg.specs.declared.message.Message.{Message}
use Rattle.wire_msg.specs.declared.message.Message.TheVariants.{DecodeReply, EncodeReply}
use Rattle.munge_tools.specs.Able.{GivesReply}
use Rattle.munge_tools.specs.Ending.{status_of}
use Rattle.munge_tools.specs.Exchange.{Heard}
use Rattle.munge_tools.specs.Fitting.{FitsDecode, FitsEncode}
use Rattle.munge_tools.specs.Remunge.{MakingCame, RemungeCame, Told}
use Rattle.munge_tools.specs.Remunge as remunge
use Rattle.munge_tools.specs.RemungeAble.{CanRun, ComesFirst, FitRounds, FitsRound, TotalsPrinted, one, two}
use Rattle.munge_tools.specs.RemungeWords.{AskedRemunge}
use Rattle.munge_tools.specs.Rounds.{Opened, Round, RoundRan, RoundStopped, RoundsRan, SoFar, Stops, is_to_open, making_frame, unmade, unopened}
use Rattle.munge_tools.specs.Unheard.{ending_of}
use Rattle.munge_tools.specs.Wire.{Dialled, WireSeen}
use Rattle.munge_tools.specs.declared.ending.Ending.{Ending}
use Rattle.munge_tools.specs.declared.ending.Ending.TheVariants as ending
use Rattle.munge_tools.specs.declared.exchange.Unheard.{Unheard}
use Rattle.munge_tools.specs.declared.totals.Totals.{Totals}
use Rattle.munge_tools.proofs.Completeness.{heard_it, unheard_why}
use Rattle.munge_tools.proofs.ExchangeLemmas.{FrameLaws}

-- a reply that comes first is given
given : (Fits : Message → Type 0) (wire : WireSeen) (message : Message) (replies later : List (List ℕ)) → wire.replies ≡ Some replies
    → ComesFirst Fits message replies later → GivesReply Fits wire message
given Fits wire message replies later told comes =
    record {
      is_message = comes.is_message;
      fits = comes.fits;
      rest = comes.rest;
      replies = later;
      told = told ∙ ap Some comes.first;
    }

-- after a dial the others are left
left_after : (Fits : Message → Type 0) (path written read : List ℕ) (a e : WireSeen) (message : Message) (replies later : List (List ℕ))
    → a.replies ≡ Some replies → ComesFirst Fits message replies later → Dialled path a e written read → e.replies ≡ Some later
left_after Fits path written read a e message replies later told comes dialled =
    let takes = subst (λ told. TakesFirst told e.replies dialled.opened) (told ∙ ap Some comes.first) dialled.reply in
    takes.0

-- it is not both to be opened and not
not_both : (b : Bool) → b ≡ true → b ≡ false → ⊥
not_both b is is_not = let both : true ≡ false = sym is ∙ is_not in cc

to_open_same : (asked : AskedRemunge) (first second : EncodeSaid) (b : Bool) → EncodeReply first ≡ EncodeReply second
    → is_to_open asked.decode second ≡ b → is_to_open asked.decode first ≡ b
to_open_same asked first second b same is =
    let same_said : first ≡ second = cc in
    ap (is_to_open asked.decode) same_said ∙ is

-- a round that ran leaves the replies behind its own
opened_leaves : FrameLaws → (asked : AskedRemunge) (a b c : WireSeen) (made : EncodeSaid) (opened : Option DecodeSaid) (replies later : List (List ℕ))
    → a.replies ≡ Some replies → FitsRound asked.decode replies later
    → Heard asked.socket (making_frame asked.payload) a b (EncodeReply made) → Opened asked made b c opened → c.replies ≡ Some later
opened_leaves laws asked a b c made None replies later told (one made' comes closed) heard opened =
    ap (λ (w : WireSeen). w.replies) opened.1
    ∙ left_after FitsEncode asked.socket _ _ a b (EncodeReply made') replies later told comes heard.dialled
opened_leaves laws asked a b c made (Some said) replies later told (one made' comes closed) heard opened =
    let same = heard_it laws FitsEncode asked.socket _ a b (EncodeReply made') (EncodeReply made) (given FitsEncode a (EncodeReply made') replies later told comes) heard in
    absurd (not_both _ opened.0 (to_open_same asked made made' false same closed))
opened_leaves laws asked a b c made None replies later told (two made' between comes opens said' comes') heard opened =
    let same = heard_it laws FitsEncode asked.socket _ a b (EncodeReply made') (EncodeReply made) (given FitsEncode a (EncodeReply made') replies between told comes) heard in
    absurd (not_both _ (to_open_same asked made made' true same opens) opened.0)
opened_leaves laws asked a b c made (Some said) replies later told (two made' between comes opens said' comes') heard opened =
    let told' = left_after FitsEncode asked.socket _ _ a b (EncodeReply made') replies between told comes heard.dialled in
    left_after FitsDecode asked.socket _ _ b c (DecodeReply said') between later told' comes' opened.2.dialled

round_leaves : FrameLaws → (asked : AskedRemunge) (a c : WireSeen) (round : Round) (replies later : List (List ℕ)) → a.replies ≡ Some replies
    → FitsRound asked.decode replies later → RoundRan asked a c round → c.replies ≡ Some later
round_leaves laws asked a c round replies later told fits ran =
    opened_leaves laws asked a ran.between c round.made round.opened replies later told fits ran.made.heard ran.opened

-- a round that stopped did so for a fault or want of memory
round_why : FrameLaws → (asked : AskedRemunge) (a c : WireSeen) (why : Unheard) (replies later : List (List ℕ)) → a.replies ≡ Some replies
    → FitsRound asked.decode replies later → RoundStopped asked a c why → (ending_of why ≡ ending.NoMemory) ⊎ (ending_of why ≡ ending.Unreached)
round_why laws asked a c why replies later told (one made' comes closed) (unmade none) =
    unheard_why FitsEncode asked.socket _ a c (EncodeReply made') why (given FitsEncode a (EncodeReply made') replies later told comes) none
round_why laws asked a c why replies later told (two made' between comes opens said' comes') (unmade none) =
    unheard_why FitsEncode asked.socket _ a c (EncodeReply made') why (given FitsEncode a (EncodeReply made') replies between told comes) none
round_why laws asked a c why replies later told (one made' comes closed) (unopened b made made_by opens' none) =
    let same = heard_it laws FitsEncode asked.socket _ a b (EncodeReply made') (EncodeReply made) (given FitsEncode a (EncodeReply made') replies later told comes) made_by.heard in
    absurd (not_both _ opens' (to_open_same asked made made' false same closed))
round_why laws asked a c why replies later told (two made' between comes opens said' comes') (unopened b made made_by opens' none) =
    let told' = left_after FitsEncode asked.socket _ _ a b (EncodeReply made') replies between told comes made_by.heard.dialled in
    unheard_why FitsDecode asked.socket _ b c (DecodeReply said') why (given FitsDecode b (DecodeReply said') between later told' comes') none

-- replies for so many rounds are left
pub record Enough (asked : AskedRemunge) (count : ℕ) (wire : WireSeen) : Type 0 where
  pub replies : List (List ℕ)
  pub told : wire.replies ≡ Some replies
  pub enough : FitRounds asked.decode count replies

-- rounds that ran leave enough for the others
rounds_leave : FrameLaws → (asked : AskedRemunge) (a c : WireSeen) (rounds : List Round) (count : ℕ) → Enough asked (length rounds + count) a
    → RoundsRan asked a rounds c → Enough asked count c
rounds_leave laws asked a c [] count enough ran =
    let none : length {A = Round} [] + count ≡ count = omega arith in
    subst (Enough asked count) (sym ran) (subst (λ n. Enough asked n a) none enough)
rounds_leave laws asked a c (round ∷ earlier) count enough ran =
    let more : length (round ∷ earlier) + count ≡ length earlier + suc count = omega arith in
    let before : Enough asked (suc count) ran.0 = rounds_leave laws asked a ran.0 earlier (suc count) (subst (λ n. Enough asked n a) more enough) ran.1 in
    record {
      replies = before.enough.0;
      told = round_leaves laws asked ran.0 c round before.replies before.enough.0 before.told before.enough.1 ran.2;
      enough = before.enough.2;
    }

stops_why : FrameLaws → (asked : AskedRemunge) (a c : WireSeen) (why : Unheard) → Enough asked asked.count a → Stops asked a c why
    → (ending_of why ≡ ending.NoMemory) ⊎ (ending_of why ≡ ending.Unreached)
stops_why laws asked a c why enough stops =
    let fewer = stops.fewer in
    let some : asked.count ≡ length stops.rounds + suc (asked.count - (length stops.rounds + 1)) = omega (arith, fewer) in
    let left = rounds_leave laws asked a stops.between stops.rounds (suc (asked.count - (length stops.rounds + 1))) (subst (λ n. Enough asked n a) some enough) stops.ran in
    round_why laws asked stops.between c why left.replies left.enough.0 left.told left.enough.1 stops.stopped

-- the status by the totals
ends_by : (totals : Totals) (how : Ending) → remunge.EndsBy totals how
    → (totals.failed ≡ 0 → status_of how ≡ 0) × ((totals.failed ≡ 0 → ⊥) → status_of how ≡ 1)
ends_by totals how (remunge.well none is) = (λ _. ap status_of is, λ other. absurd (other none))
ends_by totals how (remunge.with_failures some is) = (λ none. absurd (some none), λ _. ap status_of is)

-- the totals were printed, and remunge ends by them
abbrev pub RunsWell : (asked : AskedRemunge) (taken taken' : Option (List ℕ)) (before after : WireSeen) (how : Ending) → Type 0
RunsWell asked taken taken' before after how =
    (how ≡ ending.NoMemory) ⊎ TotalsPrinted asked taken taken' before after (status_of how)

told_well : (asked : AskedRemunge) (totals : Totals) (silent : Type 0) (taken taken' : Option (List ℕ)) (before after : WireSeen) (how : Ending)
    → (how ≡ ending.OutputFailed → ⊥) → SoFar asked before after asked.count totals → Told totals silent taken taken' how
    → RunsWell asked taken taken' before after how
told_well asked totals silent taken taken' before after how no_write ran (remunge.printed appended ends) =
    let by = ends_by totals how ends in
    inr (record { totals = totals; ran = ran; printed = appended; well = by.0; with_failures = by.1 })
told_well asked totals silent taken taken' before after how no_write ran (remunge.unprinted taken_cut is) = absurd (no_write is)
told_well asked totals silent taken taken' before after how no_write ran (remunge.untold stays is) = inl is

making_well : FrameLaws → (asked : AskedRemunge) (silent still : Type 0) (taken taken' : Option (List ℕ)) (before after : WireSeen) (how : Ending)
    → length asked.payload ≤ 1048576 → Enough asked asked.count before → (how ≡ ending.Unreached → ⊥) → (how ≡ ending.OutputFailed → ⊥)
    → MakingCame asked silent still taken taken' before after how → RunsWell asked taken taken' before after how
making_well laws asked silent still taken taken' before after how within enough no_wire no_write (remunge.long_text long a b is) =
    absurd (omega (arith, within, long))
making_well laws asked silent still taken taken' before after how within enough no_wire no_write (remunge.stopped why stops a is) =
    elim (stops_why laws asked before after why enough stops) [
      | inl memory ↦ inl (is ∙ memory)
      | inr fault ↦ absurd (no_wire (is ∙ fault))
    ]
making_well laws asked silent still taken taken' before after how within enough no_wire no_write (remunge.ran totals ran told) =
    told_well asked totals silent taken taken' before after how no_write ran told

pub remunge_well : FrameLaws → (words : List Text) (silent still : Type 0) (taken taken' : Option (List ℕ)) (before after : WireSeen) (how : Ending)
    → (can : CanRun words before) → (how ≡ ending.Unreached → ⊥) → (how ≡ ending.OutputFailed → ⊥)
    → RemungeCame words silent still taken taken' before after how → RunsWell can.asked taken taken' before after how
remunge_well laws words silent still taken taken' before after how can no_wire no_write (remunge.bad_words none a b is) =
    let both : ◌≡◌ {A = Option AskedRemunge} None (Some can.asked) = sym none ∙ can.asks in absurd (cc)
remunge_well laws words silent still taken taken' before after how can no_wire no_write (remunge.unread a b is) = inl is
remunge_well laws words silent still taken taken' before after how can no_wire no_write (remunge.asked asked is came) =
    let both : Some asked ≡ Some can.asked = sym is ∙ can.asks in
    let same_asked : asked ≡ can.asked = cc in
    making_well laws can.asked silent still taken taken' before after how can.within
    (record { replies = can.replies; told = can.told; enough = can.enough }) no_wire no_write
    (subst (λ asked. MakingCame asked silent still taken taken' before after how) same_asked came)
