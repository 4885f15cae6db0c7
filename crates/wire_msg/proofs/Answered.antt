-- What is answered to a piece.
use Rattle.std.proofs.Common.{◌≡◌, ℕ, ◌-◌, ◌≤◌, ◌<◌, List, [], ◌++◌, length, take, drop, refl, sym, ap, ◌∙◌, arith, inl, inr, ◌⊎◌}
use Rattle.std.specs.declared.option.Option.{Option}
use Rattle.std.specs.declared.option.Option.TheVariants.{None, Some}
use Rattle.std.proofs.lemmas.Bool.{cases_lt}
use Rattle.std.proofs.lemmas.List.{append_assoc, append-nil, length-append, length-take, length-take-le, take-append-drop, take_all}
use Rattle.wire_msg.proofs.Frames.{frame_laid, no_frame, unfinished_laid, unfinished_part, unfinished_prefix}
use Rattle.wire_msg.proofs.ByteLists.{drop_bytes, take_bytes}
use Rattle.wire_msg.specs.Begun.{Partial, came}
use Rattle.munge_types.specs.Bytes.{IsBytes}
use Rattle.wire_msg.specs.Feeding.{Answers, Feeding}
use Rattle.wire_msg.specs.Frame.{BeginsFrame, IsNoFrame, IsUnfinished}
use Rattle.wire_msg.specs.FrameHead.{message_head}
use Rattle.wire_msg.specs.Head.{BeginsNoHead, IsHead, IsHeadPart}
use Rattle.wire_msg.specs.declared.fed.Fed.{Fed}
use Rattle.wire_msg.specs.declared.fed.Fed.TheVariants.{Message, More, Bad}
use Rattle.wire_msg.specs.declared.kind.Kind.{Kind}
use Rattle.wire_msg.specs.declared.kind.Side.{Side}

-- where there is no frame, nothing else is answered
pub answers_bad : (kept : Feeding) (piece : List ℕ) (fed : Fed) → Answers kept piece fed → IsNoFrame kept.side (kept.unfinished ++ piece)
    → fed ≡ Bad kept.begins
answers_bad kept piece (Message message used) answers none =
    let split : kept.unfinished ++ piece ≡ (kept.unfinished ++ take used piece) ++ drop used piece =
    ap (λ (l : List ℕ). kept.unfinished ++ l) (sym (take-append-drop used piece)) ∙ sym (append_assoc kept.unfinished (take used piece) (drop used piece)) in
    absurd
    (none.begins_none
    (record {
      frame = kept.unfinished ++ take used piece;
      rest = drop used piece;
      is_frame = record { message = message; is_message = answers.0; spelled = answers.2 };
      begins = split;
    }))
answers_bad kept piece More answers none = absurd (none.goes_on_to_none (unfinished_prefix kept.side (kept.unfinished ++ piece) answers))
answers_bad kept piece (Bad place) answers none = ap Bad answers.1

-- the first bytes of a frame, with those of the piece, up to the end of a head
abbrev pub front_of : (front piece : List ℕ) → List ℕ
front_of front piece = front ++ take (7 - length front) piece

pub front_on : (front piece : List ℕ) → front ++ piece ≡ front_of front piece ++ drop (7 - length front) piece
front_on front piece =
    ap (λ (l : List ℕ). front ++ l) (sym (take-append-drop (7 - length front) piece))
    ∙ sym (append_assoc front (take (7 - length front) piece) (drop (7 - length front) piece))

-- fewer bytes than a head are all that came
pub front_part : (side : Side) (front piece all : List ℕ) → length front ≤ 7 → all ≡ front_of front piece → length all < 7 → IsHeadPart side all
    → IsUnfinished side (front ++ piece)
front_part side front piece all short same fewer found =
    let size = ap length same in
    let taken = length-take (7 - length front) piece in
    let within : length piece ≤ 7 - length front = omega (arith, size, taken, length-append front (take (7 - length front) piece)) in
    let whole : all ≡ front ++ piece = same ∙ ap (λ (l : List ℕ). front ++ l) (take_all (7 - length front) piece within) in
    rw (← whole) (unfinished_part side all fewer found)

pub front_broken : (side : Side) (front piece all : List ℕ) → all ≡ front_of front piece → BeginsNoHead side all → IsNoFrame side (front ++ piece)
front_broken side front piece all same none =
    rw (front_on front piece, ← same) (no_frame side all (drop (7 - length front) piece) none)

-- a whole head, and whatever comes after it
pub front_whole : (side : Side) (kind : Kind) (size : ℕ) (front piece : List ℕ) → IsBytes piece → IsHead side kind size
    → message_head kind size ≡ front_of front piece → BeginsFrame side (front ++ piece) ⊎ IsUnfinished side (front ++ piece)
front_whole side kind size front piece bytes is_head same =
    let body = drop (7 - length front) piece in
    let all : front ++ piece ≡ message_head kind size ++ body = front_on front piece ∙ ap (λ (l : List ℕ). l ++ body) (sym same) in
    let body_bytes = drop_bytes (7 - length front) piece bytes in
    elim (cases_lt (length body) size) [
      | inl fewer ↦ inr (rw all (unfinished_laid side kind size body is_head fewer body_bytes))
      | inr enough ↦
          inl
          (record {
            frame = message_head kind size ++ take size body;
            rest = drop size body;
            is_frame = frame_laid side kind size (take size body) is_head (length-take-le size body enough) (take_bytes size body body_bytes);
            begins = all ∙ (ap (λ (l : List ℕ). message_head kind size ++ l) (sym (take-append-drop size body))
                ∙ sym (append_assoc (message_head kind size) (take size body) (drop size body)));
          })
    ]

-- while there is no whole head, its bytes are all that came
pub came_none : (front : List ℕ) (begun : Option Partial) → begun ≡ None → came front begun ≡ front
came_none front begun none = rw none refl

-- from then on, the head and the body
pub came_some : (front piece : List ℕ) (begun : Option Partial) (partial : Partial) → begun ≡ Some partial
    → came [] (Some partial) ≡ came front begun ++ take 0 piece
came_some front piece begun partial some = rw (some, append-nil {A = ℕ} (message_head partial.kind partial.size ++ partial.body)) refl

-- a head that has just become whole
pub came_whole : (partial : Partial) (kind : Kind) (size : ℕ) (front piece all : List ℕ) (taken : ℕ) → partial.kind ≡ kind → partial.size ≡ size
    → partial.body ≡ [] → all ≡ message_head kind size → all ≡ front_of front piece → taken ≡ length all - length front
    → came [] (Some partial) ≡ front ++ take taken piece
came_whole partial kind size front piece all taken kind_is size_is body_is head same count =
    let length_is : length all ≡ 7 = ap length head in
    let taken_is : taken ≡ 7 - length front = omega (arith, count, length_is) in
    rw (kind_is, size_is, body_is, taken_is) (append-nil (message_head kind size) ∙ (sym head ∙ same))
