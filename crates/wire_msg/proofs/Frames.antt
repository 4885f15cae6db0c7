-- Frames as heads and bodies.
use Rattle.std.proofs.Common.{◌≡◌, ◌≢◌, ℕ, ◌-◌, ◌≤◌, ◌<◌, List, [], ◌++◌, length, nat_eq, cond, refl, sym, ap, ◌∙◌, arith, ◌⊎◌, inl, inr}
use Rattle.std.proofs.lemmas.List.{append_assoc, append-nil, length-append, nil_from_length}
use Rattle.munge_types.specs.BigEndian.{be32}
use Rattle.wire_msg.proofs.ByteLists.{append_bytes, zeros, length-zeros, zeros_bytes}
use Rattle.wire_msg.proofs.Parts.{apart, number_apart, SameParts}
use Rattle.wire_msg.proofs.Spelled.{read_body, allowed_within, body_allowed}
use Rattle.munge_types.specs.Bytes.{IsBytes}
use Rattle.wire_msg.specs.Frame.{BeginsFrame, IsFrame, IsFramePrefix, IsNoFrame, IsUnfinished}
use Rattle.wire_msg.specs.FrameHead.{AllowsSize, message_head, kind_number, side_of_kind}
use Rattle.wire_msg.specs.Head.{BeginsNoHead, IsHead, IsHeadPart}
use Rattle.wire_msg.specs.Spelling.{body_of, kind_of}
use Rattle.wire_msg.specs.declared.kind.Kind.{Kind}
use Rattle.wire_msg.specs.declared.kind.Kind.TheVariants as kind
use Rattle.wire_msg.specs.declared.kind.Side.{Side}

-- a head and as many bytes as it says
pub record Laid (side : Side) (bytes : List ℕ) : Type 0 where
  pub kind : Kind
  pub body : List ℕ
  pub is_head : IsHead side kind (length body)
  pub laid : bytes ≡ message_head kind (length body) ++ body

pub laid_frame : (side : Side) (bytes : List ℕ) → IsFrame side bytes → Laid side bytes
laid_frame side bytes frame =
    let is_message = frame.is_message in
    record {
      kind = kind_of frame.message;
      body = body_of frame.message;
      is_head = record { sent_by = is_message.sent_by; allowed = body_allowed frame.message is_message.fits is_message.within };
      laid = frame.spelled;
    }

-- a head and as many bytes as it says are a frame
pub frame_laid : (side : Side) (kind : Kind) (size : ℕ) (body : List ℕ) → IsHead side kind size → length body ≡ size → IsBytes body
    → IsFrame side (message_head kind size ++ body)
frame_laid side kind size body is_head whole bytes =
    let allowed : AllowsSize kind (length body) = rw whole is_head.allowed in
    let spelled = read_body kind body allowed bytes in
    record {
      message = spelled.message;
      is_message =
          record {
            sent_by = ap side_of_kind spelled.kind_is ∙ is_head.sent_by;
            fits = spelled.fits;
            within = rw spelled.body_is (allowed_within kind (length body) allowed);
          };
      spelled = rw (spelled.kind_is, spelled.body_is, whole) refl;
    }

more_than_none : (n : ℕ) → 0 < n → zeros n ≢ []
more_than_none n some same =
    let size = length-zeros n in
    let none : length (zeros n) ≡ 0 = ap length same in
    omega (arith, size, none)

-- a head and fewer bytes are an unfinished frame
pub unfinished_laid : (side : Side) (kind : Kind) (size : ℕ) (body : List ℕ) → IsHead side kind size → length body < size → IsBytes body
    → IsUnfinished side (message_head kind size ++ body)
unfinished_laid side kind size body is_head fewer bytes =
    let missing = size - length body in
    let lengths = length-zeros missing in
    let whole : length (body ++ zeros missing) ≡ size = simp length-append (omega (arith, lengths)) in
    record {
      rest = zeros missing;
      wants_some = more_than_none missing (omega arith);
      completed = rw append_assoc (frame_laid side kind size (body ++ zeros missing) is_head whole (append_bytes body (zeros missing) bytes (zeros_bytes missing)));
    }

-- a kind by its number
kind_at : ℕ → Kind
kind_at n =
    cond (nat_eq n 1) kind.EncodeRequest (cond (nat_eq n 2) kind.EncodeReply (cond (nat_eq n 3) kind.DecodeRequest
    (cond (nat_eq n 4) kind.DecodeReply (cond (nat_eq n 5) kind.Stop kind.Bye))))

kind_at_number : (kind : Kind) → kind_at (kind_number kind) ≡ kind
unfolding kind_at
kind_at_number kind.EncodeRequest = refl
kind_at_number kind.EncodeReply = refl
kind_at_number kind.DecodeRequest = refl
kind_at_number kind.DecodeReply = refl
kind_at_number kind.Stop = refl
kind_at_number kind.Bye = refl

pub kind_once : (first second : Kind) → kind_number first ≡ kind_number second → first ≡ second
kind_once first second same = sym (kind_at_number first) ∙ (ap kind_at same ∙ kind_at_number second)

-- two heads with what is behind them
pub record SameHead (k l : Kind) (m n : ℕ) (x y : List ℕ) : Type 0 where
  pub kind : k ≡ l
  pub size : m ≡ n
  pub behind : x ≡ y

pub heads_apart : (k l : Kind) (m n : ℕ) (x y : List ℕ) → AllowsSize k m → AllowsSize l n → message_head k m ++ x ≡ message_head l n ++ y
    → SameHead k l m n x y
heads_apart k l m n x y first second same =
    let m_fits = allowed_within k m first in
    let n_fits = allowed_within l n second in
    let kinds : kind_number k ≡ kind_number l = cc same in
    let rest : be32 m ++ x ≡ be32 n ++ y = cc same in
    let parts = number_apart m n x y (omega arith) (omega arith) rest in
    record { kind = kind_once k l kinds; size = parts.number; behind = parts.behind }

-- of two frames with something behind them
pub frames_apart : (side : Side) (f g x y : List ℕ) → IsFrame side f → IsFrame side g → f ++ x ≡ g ++ y → SameParts f g x y
frames_apart side f g x y first second same =
    let a = laid_frame side f first in
    let b = laid_frame side g second in
    let heads : message_head a.kind (length a.body) ++ (a.body ++ x) ≡ message_head b.kind (length b.body) ++ (b.body ++ y) =
    rw (a.laid, b.laid) at same in
    let head = heads_apart a.kind b.kind (length a.body) (length b.body) (a.body ++ x) (b.body ++ y) a.is_head.allowed b.is_head.allowed heads in
    let parts = apart a.body b.body x y head.size head.behind in
    let kinds = head.kind in
    let bodies = parts.front in
    let first_laid = a.laid in
    let second_laid = b.laid in
    record { front = a.laid ∙ (rw (kinds, bodies) refl ∙ sym b.laid); behind = parts.behind }

-- a frame has the bytes of a head at least
pub frame_size : (side : Side) (bytes : List ℕ) → IsFrame side bytes → 7 ≤ length bytes
frame_size side bytes frame =
    let laid = laid_frame side bytes frame in
    let size = ap length laid.laid in
    omega (arith, size)

no_begun : (side : Side) (bytes more frame rest : List ℕ) → BeginsNoHead side bytes → Laid side frame → bytes ++ more ≡ frame ++ rest → ⊥
no_begun side bytes more frame rest none laid same =
    let begun : bytes ++ more ≡ message_head laid.kind (length laid.body) ++ (laid.body ++ rest) =
    same ∙ ap (λ (l : List ℕ). l ++ rest) laid.laid ∙ append_assoc (message_head laid.kind (length laid.body)) laid.body rest in
    none laid.kind (length laid.body) more (laid.body ++ rest) laid.is_head begun

-- what begins no head begins no frame, whatever comes after it
pub no_frame : (side : Side) (bytes more : List ℕ) → BeginsNoHead side bytes → IsNoFrame side (bytes ++ more)
no_frame side bytes more none =
    record {
      begins_none = λ begun.
          no_begun side bytes more begun.frame begun.rest none (laid_frame side begun.frame begun.is_frame) begun.begins;
      goes_on_to_none = λ prefix.
          let whole = (bytes ++ more) ++ prefix.rest in
          no_begun side bytes (more ++ prefix.rest) whole [] none (laid_frame side whole prefix.completed)
          (sym (append_assoc bytes more prefix.rest) ∙ sym (append-nil whole));
    }

-- it is no frame's front either
pub not_unfinished : (side : Side) (bytes : List ℕ) → BeginsNoHead side bytes → IsUnfinished side bytes → ⊥
not_unfinished side bytes none unfinished =
    let frame = laid_frame side (bytes ++ unfinished.rest) unfinished.completed in
    none frame.kind (length frame.body) unfinished.rest frame.body frame.is_head frame.laid

-- fewer bytes than a head, of which they are the first, are an unfinished frame
pub unfinished_part : (side : Side) (bytes : List ℕ) → length bytes < 7 → IsHeadPart side bytes → IsUnfinished side bytes
unfinished_part side bytes fewer found =
    let whole = length-zeros found.size in
    let frame = frame_laid side found.kind found.size (zeros found.size) found.is_head whole (zeros_bytes found.size) in
    let size = ap length found.completed in
    record {
      rest = found.rest ++ zeros found.size;
      wants_some = λ none.
          let lengths = ap length none in
          omega (arith, size, lengths, length-append bytes found.rest, length-append found.rest (zeros found.size));
      completed = rw (← append_assoc bytes found.rest (zeros found.size), found.completed) frame;
    }

-- a frame with something behind it, or nothing, is no unfinished one
pub begun_not_unfinished : (side : Side) (bytes : List ℕ) → BeginsFrame side bytes → IsUnfinished side bytes → ⊥
begun_not_unfinished side bytes begun unfinished =
    let whole = bytes ++ unfinished.rest in
    let same : begun.frame ++ (begun.rest ++ unfinished.rest) ≡ whole ++ [] =
    sym (append_assoc begun.frame begun.rest unfinished.rest)
    ∙ (ap (λ (l : List ℕ). l ++ unfinished.rest) (sym begun.begins) ∙ sym (append-nil whole)) in
    let parts = frames_apart side begun.frame whole (begun.rest ++ unfinished.rest) [] begun.is_frame unfinished.completed same in
    let lengths = ap length parts.behind in
    unfinished.wants_some (nil_from_length unfinished.rest (omega (arith, lengths, length-append begun.rest unfinished.rest)))

-- what goes on to a frame
pub unfinished_prefix : (side : Side) (bytes : List ℕ) → IsUnfinished side bytes → IsFramePrefix side bytes
unfinished_prefix side bytes unfinished = record { rest = unfinished.rest; completed = unfinished.completed }

-- what begins with a frame or goes on to one is not without one
pub some_frame : (side : Side) (bytes : List ℕ) → BeginsFrame side bytes ⊎ IsUnfinished side bytes → IsNoFrame side bytes → ⊥
some_frame side bytes (inl begun) none = none.begins_none begun
some_frame side bytes (inr unfinished) none = none.goes_on_to_none (unfinished_prefix side bytes unfinished)
