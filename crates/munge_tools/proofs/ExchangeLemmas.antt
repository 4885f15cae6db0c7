-- What comes of one dial.
use Rattle.std.proofs.Common.{◌≡◌, ◌∙◌, ℕ, ◌⊎◌, List, [], ◌∷◌, ◌++◌, refl, sym, ap, subst, inl, inr}
use Rattle.std.proofs.lemmas.List.{append-nil}
use Rattle.std.proofs.KnownBytes.{Consumes-nil}
use Rattle.std.specs.Io.KnownBytes.{Appends, Consumes}
use Rattle.byte_io.specs.Counts.{Rose}
use Rattle.byte_io.specs.Dials.{Dials}
use Rattle.byte_io.specs.TakesFirst.{TakesFirst}
use Rattle.wire_msg.specs.Fits.{IsMessage}
use Rattle.wire_msg.specs.Frame.{BeginsFrame, IsFrame, IsNoFrame, IsUnfinished}
use Rattle.wire_msg.specs.Spelling.{frame_of}
use Rattle.wire_msg.specs.declared.kind.Side.{Side}
use Rattle.wire_msg.specs.declared.kind.Side.TheVariants.{Replies}
use Rattle.wire_msg.specs.declared.message.Message.{Message}
use Rattle.munge_tools.specs.Exchange.{AnyReply, Heard, IsBadReply, LeadsToFitting, NotHeard, cut, undialled, unfit, unheld, unmade, unread}
use Rattle.munge_tools.specs.ReplyRead.{Stopped, broken, ended, failed, input_of, no_memory}
use Rattle.munge_tools.specs.Wire.{Dialled, ReplyEnded, WireSeen}
use Rattle.munge_tools.specs.declared.exchange.Unheard.{Unheard}
use Rattle.munge_tools.specs.declared.exchange.Unheard.TheVariants.{BadReply}

-- what a dial that succeeds does
pub record Dialling (path : List ℕ) (before after : WireSeen) : Type 0 where
  pub dials : Dials before.dialled after.dialled path
  pub reply : TakesFirst before.replies after.replies after.left
  pub taken : after.taken ≡ before.taken
  pub ends : after.ends ≡ before.ends

-- what a write leaves
pub record WriteLeaves (before after : WireSeen) : Type 0 where
  pub dialled : after.dialled ≡ before.dialled
  pub replies : after.replies ≡ before.replies
  pub left : after.left ≡ before.left
  pub ends : after.ends ≡ before.ends

-- what a read leaves
pub record ReadLeaves (before after : WireSeen) : Type 0 where
  pub dialled : after.dialled ≡ before.dialled
  pub replies : after.replies ≡ before.replies
  pub taken : after.taken ≡ before.taken

-- a dial and a write
pub written : (path : List ℕ) (a b d : WireSeen) (bytes : List ℕ) → Dialling path a b → WriteLeaves b d → Appends b.taken d.taken bytes
    → Dialled path a d bytes []
written path a b d bytes dialling leaves appended =
    record {
      dials = subst (λ dialled. Dials a.dialled dialled path) (sym leaves.dialled) dialling.dials;
      opened = b.left;
      reply = subst (λ replies. TakesFirst a.replies replies b.left) (sym leaves.replies) dialling.reply;
      writes = subst (λ taken. Appends taken d.taken bytes) dialling.taken appended;
      reads = subst (λ left. Consumes b.left left []) (sym leaves.left) (Consumes-nil b.left);
    }

-- a dial, a write and a read
pub exchanged : (path : List ℕ) (a b d e : WireSeen) (bytes read : List ℕ) → Dialling path a b → WriteLeaves b d → Appends b.taken d.taken bytes
    → ReadLeaves d e → Consumes d.left e.left read → Dialled path a e bytes read
exchanged path a b d e bytes read dialling leaves appended leaves' consumed =
    record {
      dials = subst (λ dialled. Dials a.dialled dialled path) (sym (leaves'.dialled ∙ leaves.dialled)) dialling.dials;
      opened = b.left;
      reply = subst (λ replies. TakesFirst a.replies replies b.left) (sym (leaves'.replies ∙ leaves.replies)) dialling.reply;
      writes = subst (λ taken. Appends taken e.taken bytes) dialling.taken (subst (λ taken. Appends b.taken taken bytes) (sym leaves'.taken) appended);
      reads = subst (λ left. Consumes left e.left read) leaves.left consumed;
    }

-- a law of frames
abbrev pub Apart : Type 0
Apart = (side : Side) (bytes : List ℕ) → BeginsFrame side bytes → IsUnfinished side bytes → ⊥

begins : (bytes rest : List ℕ) → LeadsToFitting AnyReply bytes [] rest → BeginsFrame Replies bytes
begins bytes rest leads =
    record {
      frame = frame_of leads.message;
      rest = rest;
      is_frame = record { message = leads.message; is_message = leads.is_message; spelled = refl };
      begins = sym (append-nil bytes) ∙ leads.spelled;
    }

-- bytes of no frame are no reply
no_frame : (came : Type 0) (bytes : List ℕ) → IsNoFrame Replies bytes → IsBadReply AnyReply came bytes
no_frame _ bytes none =
    record {
      begins_none = λ rest leads. none.begins_none (begins bytes rest leads);
      goes_on_to_none = inl (λ more leads. none.goes_on_to_none (record {
        rest = more;
        completed = record { message = leads.message; is_message = leads.is_message; spelled = leads.spelled ∙ append-nil (frame_of leads.message) };
      }));
    }

-- part of a reply that ended is none
cut_short : Apart → (came : Type 0) (bytes : List ℕ) → IsUnfinished Replies bytes → came → IsBadReply AnyReply came bytes
cut_short apart _ bytes unfinished at_end =
    record {
      begins_none = λ rest leads. apart Replies bytes (begins bytes rest leads) unfinished;
      goes_on_to_none = inr at_end;
    }

-- what was sent and read where no reply came
pub not_heard : Apart → (path frame : List ℕ) (a b d e : WireSeen) (why : Unheard) → Dialling path a b → WriteLeaves b d
    → Appends b.taken d.taken frame → ReadLeaves d e → Stopped [] (input_of d.left d.ends) (input_of e.left e.ends) why
    → NotHeard AnyReply path frame a e why
not_heard apart path frame a b d e why dialling leaves appended leaves' (broken reads is) =
    unfit reads.bytes (no_frame _ reads.bytes reads.holds)
    (exchanged path a b d e frame reads.bytes dialling leaves appended leaves' reads.consumed) is
not_heard apart path frame a b d e why dialling leaves appended leaves' (ended bytes read unfinished at_end is) =
    let since : d.ends ≡ a.ends = leaves.ends ∙ dialling.ends in
    unfit bytes
    (cut_short apart (ReplyEnded a e) bytes unfinished
    (record { found = subst (λ n. Rose n e.ends) since at_end.found; nothing_left = at_end.nothing_left }))
    (exchanged path a b d e frame bytes dialling leaves appended leaves' read) is
not_heard apart path frame a b d e why dialling leaves appended leaves' (failed reads is) =
    unread reads.bytes reads.holds (exchanged path a b d e frame reads.bytes dialling leaves appended leaves' reads.consumed)
    (reads.no_end ∙ (leaves.ends ∙ dialling.ends)) is
not_heard apart path frame a b d e why dialling leaves appended leaves' (no_memory reads is) =
    unheld reads.bytes reads.holds (exchanged path a b d e frame reads.bytes dialling leaves appended leaves' reads.consumed) is

-- ---- replies that fit

-- laws of frames
pub record FrameLaws : Type 0 where
  pub one : (side other : Side) (first second : Message) → IsMessage side first → IsMessage other second → frame_of first ≡ frame_of second
      → first ≡ second
  pub whole : (side : Side) (frame more : List ℕ) → IsFrame side frame → IsFrame side (frame ++ more) → more ≡ []

any : (Fits : Message → Type 0) (bytes more rest : List ℕ) → LeadsToFitting Fits bytes more rest → LeadsToFitting AnyReply bytes more rest
any Fits bytes more rest leads = record { message = leads.message; is_message = leads.is_message; fits = tt; spelled = leads.spelled }

-- what is no reply at all does not fit
bad_of_any : (Fits : Message → Type 0) (came : Type 0) (bytes : List ℕ) → IsBadReply AnyReply came bytes → IsBadReply Fits came bytes
bad_of_any Fits _ bytes bad =
    record {
      begins_none = λ rest leads. bad.begins_none rest (any Fits bytes [] rest leads);
      goes_on_to_none = elim bad.goes_on_to_none [
        | inl none ↦ inl (λ more leads. none more (any Fits bytes more [] leads))
        | inr at_end ↦ inr at_end
      ];
    }

pub not_heard_of_any : (Fits : Message → Type 0) (path frame : List ℕ) (a e : WireSeen) (why : Unheard) → NotHeard AnyReply path frame a e why
    → NotHeard Fits path frame a e why
not_heard_of_any Fits path frame a e why (unmade same is) = unmade same is
not_heard_of_any Fits path frame a e why (undialled same is) = undialled same is
not_heard_of_any Fits path frame a e why (cut front short dialled ends is) = cut front short dialled ends is
not_heard_of_any Fits path frame a e why (unread bytes part dialled ends is) = unread bytes part dialled ends is
not_heard_of_any Fits path frame a e why (unfit bytes bad dialled is) = unfit bytes (bad_of_any Fits _ bytes bad) dialled is
not_heard_of_any Fits path frame a e why (unheld bytes leads dialled is) = unheld bytes leads dialled is

-- ---- a reply that does not fit

-- two lists that go on to the same: one goes on to the other
pub both_fronts : (a b c d : List ℕ) → a ++ b ≡ c ++ d → ((x : List ℕ) × (c ≡ a ++ x)) ⊎ ((x : List ℕ) × (a ≡ c ++ x))
both_fronts [] b c d same = inl (c, refl)
both_fronts (x ∷ a) b [] d same = inr (x ∷ a, refl)
both_fronts (x ∷ a) b (y ∷ c) d same =
    let rest : a ++ b ≡ c ++ d = cc in
    let head : x ≡ y = cc in
    elim (both_fronts a b c d rest) [
      | inl more ↦ inl (more.0, ap (λ z. z ∷ c) (sym head) ∙ ap (λ l. x ∷ l) more.1)
      | inr more ↦ inr (more.0, ap (λ z. z ∷ a) head ∙ ap (λ l. y ∷ l) more.1)
    ]

frame_is : (message : Message) → IsMessage Replies message → IsFrame Replies (frame_of message)
frame_is message is = record { message = message; is_message = is; spelled = refl }

-- frames that go on to the same bytes are of one message
pub same_message : FrameLaws → (first second : Message) (b d : List ℕ) → IsMessage Replies first → IsMessage Replies second
    → frame_of first ++ b ≡ frame_of second ++ d → first ≡ second
same_message laws first second b d one two same =
    elim (both_fronts (frame_of first) b (frame_of second) d same) [
      | inl more ↦
          let none : more.0 ≡ [] = laws.whole Replies (frame_of first) more.0 (frame_is first one) (subst (IsFrame Replies) more.1 (frame_is second two)) in
          laws.one Replies Replies first second one two (sym (more.1 ∙ ap (λ l. frame_of first ++ l) none ∙ append-nil (frame_of first)))
      | inr more ↦
          let none : more.0 ≡ [] = laws.whole Replies (frame_of second) more.0 (frame_is second two) (subst (IsFrame Replies) more.1 (frame_is first one)) in
          laws.one Replies Replies first second one two (more.1 ∙ ap (λ l. frame_of second ++ l) none ∙ append-nil (frame_of second))
    ]

-- a whole reply that does not fit
pub unfit_whole : FrameLaws → (Fits : Message → Type 0) (path frame : List ℕ) (a e : WireSeen) (message : Message) → (Fits message → ⊥)
    → Heard path frame a e message → NotHeard Fits path frame a e BadReply
unfit_whole laws Fits path frame a e message unfitting heard =
    let other : (more rest : List ℕ) → LeadsToFitting Fits (frame_of message) more rest → ⊥ =
    λ more rest leads.
    unfitting (subst Fits (sym (same_message laws message leads.message more rest heard.is_message leads.is_message leads.spelled)) leads.fits) in
    unfit (frame_of message)
    (record { begins_none = λ rest leads. other [] rest leads; goes_on_to_none = inl (λ more leads. other more [] leads) })
    heard.dialled refl
