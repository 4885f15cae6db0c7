-- Nothing but want of memory and faults keeps a tool from coming to its end.
use Rattle.std.proofs.Common.{◌≡◌, ◌∙◌, ℕ, ◌≤◌, ◌⊎◌, List, [], ◌∷◌, ◌++◌, Option, None, Some, Bool, true, false, length, sym, ap, subst, inl, inr, arith}
use Rattle.std.proofs.lemmas.List.{append-nil, length-append}
use Rattle.std.specs.Io.KnownBytes.{Appends, Consumes, IsAtEnd}
use Rattle.byte_io.specs.TakesFirst.{TakesFirst}
use Rattle.clap.specs.Words.{Text}
use Rattle.wire_msg.specs.Spelling.{frame_of}
use Rattle.wire_msg.specs.declared.message.DecodeSaid.{DecodeSaid}
use Rattle.wire_msg.specs.declared.message.EncodeSaid.{EncodeSaid}
use Rattle.wire_msg.specs.declared.message.Message.{Message}
use Rattle.wire_msg.specs.declared.message.Message.TheVariants.{DecodeReply, EncodeReply}
use Rattle.munge_tools.specs.Able.{CanOpen, CanSeal, GivesPayload, GivesReply}
use Rattle.munge_tools.specs.Ending.{status_of}
use Rattle.munge_tools.specs.Exchange.{Heard, IsBadReply, NotHeard, cut, undialled, unfit, unheld, unmade, unread}
use Rattle.munge_tools.specs.Fitting.{FitsDecode, FitsEncode}
use Rattle.munge_tools.specs.InputRead.{NoInput}
use Rattle.munge_tools.specs.InputRead as input
use Rattle.munge_tools.specs.Munge as munge
use Rattle.munge_tools.specs.Munge.{AskedCame, MungeCame, NoPayload, payload_limit, text_line}
use Rattle.munge_tools.specs.MungeWords.{AskedMunge, Payload}
use Rattle.munge_tools.specs.Printed.{printed_text}
use Rattle.munge_tools.specs.ReplyRead.{Input}
use Rattle.munge_tools.specs.Things.{Same, Things}
use Rattle.munge_tools.specs.Unheard.{ending_of}
use Rattle.munge_tools.specs.Unmunge as unmunge
use Rattle.munge_tools.specs.Unmunge.{OpeningCame, Shown, UnmungeCame}
use Rattle.munge_tools.specs.UnmungeWords.{AskedUnmunge}
use Rattle.munge_tools.specs.Wire.{Dialled, ReplyEnded, WireSeen}
use Rattle.munge_tools.specs.declared.ending.Ending.{Ending}
use Rattle.munge_tools.specs.declared.ending.Ending.TheVariants as ending
use Rattle.munge_tools.specs.declared.exchange.Unheard.{Unheard}
use Rattle.munge_tools.proofs.ExchangeLemmas.{FrameLaws, both_fronts, same_message}

-- what is left of a reply behind what was read of it
pub record Behind (reply read : List ℕ) (left : Option (List ℕ)) : Type 0 where
  pub rest : List ℕ
  pub joined : reply ≡ read ++ rest
  pub at_end : IsAtEnd left → rest ≡ []

behind : (reply read : List ℕ) (left : Option (List ℕ)) → Consumes (Some reply) left read → Behind reply read left
behind reply read None consumed = absurd consumed
behind reply read (Some rest) consumed = record { rest = rest; joined = consumed; at_end = λ none. none }

-- the first reply is opened
opened_first : (replies replies' : Option (List (List ℕ))) (opened : Option (List ℕ)) (reply : List ℕ) (more : List (List ℕ))
    → replies ≡ Some (reply ∷ more) → TakesFirst replies replies' opened → opened ≡ Some reply
opened_first replies replies' opened reply more told takes =
    let first = subst (λ told. TakesFirst told replies' opened) told takes in first.1

behind_dial : (Fits : Message → Type 0) (path written read : List ℕ) (a e : WireSeen) (message : Message) (given : GivesReply Fits a message)
    → Dialled path a e written read → Behind (frame_of message ++ given.rest) read e.left
behind_dial Fits path written read a e message given dialled =
    let first = opened_first a.replies e.replies dialled.opened (frame_of message ++ given.rest) given.replies given.told dialled.reply in
    behind (frame_of message ++ given.rest) read e.left (subst (λ opened. Consumes opened e.left read) first dialled.reads)

-- a reply that fits is no bad one
never_bad : (Fits : Message → Type 0) (path written read : List ℕ) (a e : WireSeen) (message : Message) → GivesReply Fits a message
    → IsBadReply Fits (ReplyEnded a e) read → Dialled path a e written read → ⊥
never_bad Fits path written read a e message given bad dialled =
    let left = behind_dial Fits path written read a e message given dialled in
    elim (both_fronts (frame_of message) given.rest read left.rest left.joined) [
      | inl more ↦
          bad.begins_none more.0
          (record { message = message; is_message = given.is_message; fits = given.fits; spelled = append-nil read ∙ more.1 })
      | inr more ↦ elim bad.goes_on_to_none [
        | inl none ↦
            none more.0
            (record { message = message; is_message = given.is_message; fits = given.fits; spelled = sym more.1 ∙ sym (append-nil (frame_of message)) })
        | inr came ↦
            let none : left.rest ≡ [] = left.at_end came.nothing_left in
            bad.begins_none given.rest
            (record {
              message = message;
              is_message = given.is_message;
              fits = given.fits;
              spelled = ap (λ l. read ++ l) (sym none) ∙ sym left.joined;
            })
      ]
    ]

-- what is heard is that reply
pub heard_it : FrameLaws → (Fits : Message → Type 0) (path frame : List ℕ) (a e : WireSeen) (message heard : Message) → GivesReply Fits a message
    → Heard path frame a e heard → heard ≡ message
heard_it laws Fits path frame a e message heard given came =
    let left = behind_dial Fits path frame (frame_of heard) a e message given came.dialled in
    same_message laws heard message left.rest given.rest came.is_message given.is_message (sym left.joined)

-- where no reply is heard, that is for a fault or want of memory
pub unheard_why : (Fits : Message → Type 0) (path frame : List ℕ) (a e : WireSeen) (message : Message) (why : Unheard) → GivesReply Fits a message
    → NotHeard Fits path frame a e why → (ending_of why ≡ ending.NoMemory) ⊎ (ending_of why ≡ ending.Unreached)
unheard_why Fits path frame a e message why given (unmade same is) = inl (ap ending_of is)
unheard_why Fits path frame a e message why given (undialled same is) = inr (ap ending_of is)
unheard_why Fits path frame a e message why given (cut front short dialled ends is) = inr (ap ending_of is)
unheard_why Fits path frame a e message why given (unread bytes part dialled ends is) = inr (ap ending_of is)
unheard_why Fits path frame a e message why given (unfit bytes bad dialled is) =
    absurd (never_bad Fits path frame bytes a e message given bad dialled)
unheard_why Fits path frame a e message why given (unheld bytes leads dialled is) = inl (ap ending_of is)

-- an input that is short enough is taken, but for a fault or want of memory
no_input_why : (limit : ℕ) (same : Type 0) (before after : Input) (bytes : List ℕ) (how : Ending) → before.left ≡ Some bytes → length bytes ≤ limit
    → NoInput limit same before after how → (how ≡ ending.NoMemory) ⊎ (how ≡ ending.InputFailed)
no_input_why limit same before after bytes how told within (input.too_long read size consumed is) =
    let left = behind bytes read after.left (subst (λ left. Consumes left after.left read) told consumed) in
    let joined = ap length left.joined in
    absurd (omega (arith, within, size, joined, length-append read left.rest))
no_input_why limit same before after bytes how told within (input.unread read size consumed is) = inr is
no_input_why limit same before after bytes how told within (input.no_memory stays is) = inl is

-- so is a payload
no_payload_why : (asked : Payload) (same : Type 0) (before after : Input) (bytes : List ℕ) (how : Ending) → GivesPayload asked before.left bytes
    → length bytes ≤ payload_limit → NoPayload asked same before after how → (how ≡ ending.NoMemory) ⊎ (how ≡ ending.InputFailed)
no_payload_why asked same before after bytes how gives within (munge.long_text given is long stays how_is) =
    let same_text : bytes ≡ given = subst (λ asked. GivesPayload asked before.left bytes) is gives in
    let sizes = ap length same_text in
    absurd (omega (arith, within, long, sizes))
no_payload_why asked same before after bytes how gives within (munge.uncopied stays is) = inl is
no_payload_why asked same before after bytes how gives within (munge.no_input is none) =
    no_input_why payload_limit same before after bytes how (subst (λ asked. GivesPayload asked before.left bytes) is gives) within none

-- how munge ends that has all that it needs
abbrev pub SealsWell : (said : EncodeSaid) (taken taken' : Option (List ℕ)) (how : Ending) → Type 0
SealsWell said taken taken' how =
    (how ≡ ending.NoMemory) ⊎ ((status_of how ≡ said.status) × (said.status ≡ 0 → Appends taken taken' (text_line said.text)))

answered_well : (said : EncodeSaid) (silent : Type 0) (taken taken' : Option (List ℕ)) (how : Ending) → (how ≡ ending.OutputFailed → ⊥)
    → munge.Answered said silent taken taken' how → SealsWell said taken taken' how
answered_well said silent taken taken' how no_write (munge.refused other stays is) = inr (ap status_of is, λ zero. absurd (other zero))
answered_well said silent taken taken' how no_write (munge.printed zero appended is) = inr (ap status_of is ∙ sym zero, λ _. appended)
answered_well said silent taken taken' how no_write (munge.unprinted zero taken_cut is) = absurd (no_write is)

asked_well : FrameLaws → (asked : AskedMunge) (same : Same) (before after : Things) (how : Ending) (bytes : List ℕ) (said : EncodeSaid)
    → GivesPayload asked.payload before.input.left bytes → length bytes ≤ payload_limit → GivesReply FitsEncode before.wire (EncodeReply said)
    → (how ≡ ending.Unreached → ⊥) → (how ≡ ending.InputFailed → ⊥) → (how ≡ ending.OutputFailed → ⊥)
    → AskedCame asked same before after how → SealsWell said before.taken after.taken how
asked_well laws asked same before after how bytes said gives within given no_wire no_read no_write (munge.no_payload none out wire) =
    elim (no_payload_why asked.payload same.input before.input after.input bytes how gives within none) [
      | inl is ↦ inl is
      | inr is ↦ absurd (no_read is)
    ]
asked_well laws asked same before after how bytes said gives within given no_wire no_read no_write (munge.unheard sent sealable why none out is) =
    elim (unheard_why FitsEncode _ _ before.wire after.wire (EncodeReply said) why given none) [
      | inl memory ↦ inl (is ∙ memory)
      | inr fault ↦ absurd (no_wire (is ∙ fault))
    ]
asked_well laws asked same before after how bytes said gives within given no_wire no_read no_write (munge.answered sent sealable heard fits came answer) =
    let it : EncodeReply heard ≡ EncodeReply said = heard_it laws FitsEncode _ _ before.wire after.wire (EncodeReply said) (EncodeReply heard) given came in
    let same_said : heard ≡ said = cc in
    subst (λ said. SealsWell said before.taken after.taken how) same_said
    (answered_well heard same.out before.taken after.taken how no_write answer)

pub munge_well : FrameLaws → (words : List Text) (same : Same) (before after : Things) (how : Ending) (can : CanSeal words before)
    → (how ≡ ending.Unreached → ⊥) → (how ≡ ending.InputFailed → ⊥) → (how ≡ ending.OutputFailed → ⊥)
    → MungeCame words same before after how → SealsWell can.said before.taken after.taken how
munge_well laws words same before after how can no_wire no_read no_write (munge.bad_words none a b d is) =
    let both : ◌≡◌ {A = Option AskedMunge} None (Some can.asked) = sym none ∙ can.asks in absurd (cc)
munge_well laws words same before after how can no_wire no_read no_write (munge.no_memory a b d is) = inl is
munge_well laws words same before after how can no_wire no_read no_write (munge.asked asked is came) =
    let both : Some asked ≡ Some can.asked = sym is ∙ can.asks in
    let same_asked : asked ≡ can.asked = cc in
    asked_well laws can.asked same before after how can.bytes can.said can.gives can.within can.reply no_wire no_read no_write
    (subst (λ asked. AskedCame asked same before after how) same_asked came)

-- how unmunge ends that has all that it needs
abbrev pub OpensWell : (said : DecodeSaid) (no_output : Bool) (taken taken' : Option (List ℕ)) (how : Ending) → Type 0
OpensWell said no_output taken taken' how =
    (how ≡ ending.NoMemory) ⊎ ((status_of how ≡ said.status) × (no_output ≡ false → Appends taken taken' (printed_text said)))

shown_well : (said : DecodeSaid) (no_output : Bool) (silent : Type 0) (taken taken' : Option (List ℕ)) (how : Ending) → (how ≡ ending.OutputFailed → ⊥)
    → Shown said no_output silent taken taken' how → OpensWell said no_output taken taken' how
shown_well said no_output silent taken taken' how no_write (unmunge.hidden hides stays is) =
    inr (ap status_of is, λ shows. let both : true ≡ false = sym hides ∙ shows in absurd (cc))
shown_well said no_output silent taken taken' how no_write (unmunge.printed shows appended is) = inr (ap status_of is, λ _. appended)
shown_well said no_output silent taken taken' how no_write (unmunge.unprinted shows taken_cut is) = absurd (no_write is)
shown_well said no_output silent taken taken' how no_write (unmunge.unmade shows stays is) = inl is

opening_well : FrameLaws → (asked : AskedUnmunge) (same : Same) (before after : Things) (how : Ending) (text : List ℕ) (said : DecodeSaid)
    → before.input.left ≡ Some text → length text ≤ 2097152 → GivesReply FitsDecode before.wire (DecodeReply said)
    → (how ≡ ending.Unreached → ⊥) → (how ≡ ending.InputFailed → ⊥) → (how ≡ ending.OutputFailed → ⊥)
    → OpeningCame asked same before after how → OpensWell said asked.no_output before.taken after.taken how
opening_well laws asked same before after how text said gives within given no_wire no_read no_write (unmunge.no_text none out wire) =
    elim (no_input_why 2097152 same.input before.input after.input text how gives within none) [
      | inl is ↦ inl is
      | inr is ↦ absurd (no_read is)
    ]
opening_well laws asked same before after how text said gives within given no_wire no_read no_write (unmunge.unheard sent is_text why none out is) =
    elim (unheard_why FitsDecode _ _ before.wire after.wire (DecodeReply said) why given none) [
      | inl memory ↦ inl (is ∙ memory)
      | inr fault ↦ absurd (no_wire (is ∙ fault))
    ]
opening_well laws asked same before after how text said gives within given no_wire no_read no_write (unmunge.answered sent is_text heard fits came shown) =
    let it : DecodeReply heard ≡ DecodeReply said = heard_it laws FitsDecode _ _ before.wire after.wire (DecodeReply said) (DecodeReply heard) given came in
    let same_said : heard ≡ said = cc in
    subst (λ said. OpensWell said asked.no_output before.taken after.taken how) same_said
    (shown_well heard asked.no_output same.out before.taken after.taken how no_write shown)

pub unmunge_well : FrameLaws → (words : List Text) (same : Same) (before after : Things) (how : Ending) (can : CanOpen words before)
    → (how ≡ ending.Unreached → ⊥) → (how ≡ ending.InputFailed → ⊥) → (how ≡ ending.OutputFailed → ⊥)
    → UnmungeCame words same before after how → OpensWell can.said can.asked.no_output before.taken after.taken how
unmunge_well laws words same before after how can no_wire no_read no_write (unmunge.bad_words none a b d is) =
    let both : ◌≡◌ {A = Option AskedUnmunge} None (Some can.asked) = sym none ∙ can.asks in absurd (cc)
unmunge_well laws words same before after how can no_wire no_read no_write (unmunge.no_memory a b d is) = inl is
unmunge_well laws words same before after how can no_wire no_read no_write (unmunge.asked asked is came) =
    let both : Some asked ≡ Some can.asked = sym is ∙ can.asks in
    let same_asked : asked ≡ can.asked = cc in
    opening_well laws can.asked same before after how can.text can.said can.gives can.within can.reply no_wire no_read no_write
    (subst (λ asked. OpeningCame asked same before after how) same_asked came)
