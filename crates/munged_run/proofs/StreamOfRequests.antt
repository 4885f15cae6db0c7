-- A stream of whole requests is read in one way, and is never malformed.
use Rattle.std.proofs.Common.{◌≡◌, ℕ, ◌≤◌, inl, inr, List, [], ◌∷◌, ◌++◌, length, take, drop, refl, sym, ap, ◌∙◌, subst, arith, take-append-drop}
use Rattle.std.proofs.lemmas.Bool.Decides.{leb_tells}
use Rattle.std.proofs.lemmas.List.{append_assoc, append-nil, take_at, drop_at, take-append-le}
use Rattle.std.specs.List.{AllByRecursion}
use Rattle.wire_msg.specs.Fits.{IsMessage}
use Rattle.wire_msg.specs.Frame.{IsFrame}
use Rattle.wire_msg.specs.FrameHead.{head_size}
use Rattle.wire_msg.specs.Spelling.{frame_of}
use Rattle.wire_msg.specs.declared.kind.Side.{Side}
use Rattle.wire_msg.specs.declared.kind.Side.TheVariants.{Requests}
use Rattle.wire_msg.specs.declared.message.Message.{Message}
use Rattle.session_core.specs.Reading.{IsNoRequest, broken, cut}
use Rattle.session_core.specs.Requests.{IsRequest, frames}

-- what is known of frames
pub record FrameLaws : Type 0 where
  pub one : (side other : Side) (first second : Message) → IsMessage side first
      → IsMessage other second → frame_of first ≡ frame_of second → first ≡ second
  pub apart : (side : Side) (frame more : List ℕ) → IsFrame side frame
      → IsFrame side (frame ++ more) → more ≡ []

-- each is a request
abbrev pub AllFit : List Message → Type 0
AllFit requests = AllByRecursion IsRequest requests

-- of two lists in front of others in one list, the longer goes on from the shorter
goes_on : (a b x y : List ℕ) → length a ≤ length b → a ++ x ≡ b ++ y
    → b ≡ a ++ drop (length a) b
goes_on a b x y short same =
    let n = length a in
    let front : a ≡ take n b =
    sym (take_at a x n refl) ∙ ap (take n) same ∙ take-append-le n b y short in
    sym (take-append-drop n b) ∙ ap (λ l. l ++ drop n b) (sym front)

frame_is : (request : Message) → IsRequest request → IsFrame Requests (frame_of request)
frame_is request fits = record { message = request; is_message = fits; spelled = refl }

-- a frame that goes on from a frame is that frame
same_frames : FrameLaws → (a b : Message) (more : List ℕ) → IsRequest a → IsRequest b
    → frame_of b ≡ frame_of a ++ more → frame_of a ≡ frame_of b
same_frames laws a b more a_fits b_fits longer =
    let none : more ≡ [] = laws.apart Requests (frame_of a) more (frame_is a a_fits)
    (subst (IsFrame Requests) longer (frame_is b b_fits)) in
    sym (append-nil (frame_of a)) ∙ ap (λ m. frame_of a ++ m) (sym none) ∙ sym longer

behind : (a b x y : List ℕ) → a ≡ b → a ++ x ≡ b ++ y → x ≡ y
behind a b x y parts same =
    sym (drop_at a x (length b) (ap length parts)) ∙ ap (drop (length b)) same
    ∙ drop_at b y (length b) refl

-- a request in front tells what it is, and where it ends
pub requests_apart : FrameLaws → (a b : Message) (x y : List ℕ) → IsRequest a → IsRequest b
    → frame_of a ++ x ≡ frame_of b ++ y → (a ≡ b) × (x ≡ y)
requests_apart laws a b x y a_fits b_fits same =
    let frames_same : frame_of a ≡ frame_of b =
    elim (leb_tells (length (frame_of a)) (length (frame_of b)))
    as (λ _. frame_of a ≡ frame_of b) [
      | inl short ↦ same_frames laws a b _ a_fits b_fits
          (goes_on (frame_of a) (frame_of b) x y short.1 same)
      | inr long ↦ sym (same_frames laws b a _ b_fits a_fits
          (goes_on (frame_of b) (frame_of a) y x (omega (arith, long.1)) (sym same)))
    ] in (
      laws.one Requests Requests a b a_fits b_fits frames_same,
      behind (frame_of a) (frame_of b) x y frames_same same,
    )

-- the requests go on behind these, with what is left
pub record Continues (requests read : List Message) (rest : List ℕ) : Type 0 where
  pub more : List Message
  pub requests_are : requests ≡ read ++ more
  pub fit : AllFit more
  pub rest_is : frames more ≡ rest

-- requests that are a front of a stream of requests are its first ones
pub continues : FrameLaws → (requests read : List Message) (rest : List ℕ) → AllFit requests
    → AllFit read → frames requests ≡ frames read ++ rest → Continues requests read rest
continues laws requests [] rest fit read_fit same =
    record { more = requests; requests_are = refl; fit = fit; rest_is = same }
continues laws [] (first ∷ read) rest fit read_fit same = absurd (cc)
continues laws (request ∷ requests) (first ∷ read) rest fit read_fit same =
    let parts = requests_apart laws request first (frames requests) (frames read ++ rest)
    fit.0 read_fit.0 (same ∙ append_assoc (frame_of first) (frames read) rest) in
    let later = continues laws requests read rest fit.1 read_fit.1 parts.1 in
    record {
      more = later.more;
      requests_are = ap (λ r. r ∷ requests) parts.0 ∙ ap (λ rs. first ∷ rs) later.requests_are;
      fit = later.fit;
      rest_is = later.rest_is;
    }

front_of_nothing : (bytes rest : List ℕ) → [] ≡ bytes ++ rest → bytes ≡ []
front_of_nothing [] rest same = refl
front_of_nothing (byte ∷ bytes) rest same = absurd (cc)

-- a frame has a head at least
head_within : (request : Message) → head_size ≤ length (frame_of request)
head_within request = omega arith

-- a stream of whole requests is not malformed
pub never_malformed : (requests : List Message) (bytes rest : List ℕ) (ended : Type 0)
    → AllFit requests → frames requests ≡ bytes ++ rest → (ended → rest ≡ [])
    → IsNoRequest ended bytes → ⊥
never_malformed [] bytes rest ended fit same at_end (broken size no_prefix) =
    let none : bytes ≡ [] = front_of_nothing bytes rest same in
    omega (arith, size, ap length none)
never_malformed [] bytes rest ended fit same at_end (cut has_ended some less) =
    some (front_of_nothing bytes rest same)
never_malformed (request ∷ requests) bytes rest ended fit same at_end (broken size no_prefix) =
    let frame = frame_of request in
    let on : frame ≡ bytes ++ drop (length bytes) frame =
    goes_on bytes frame rest (frames requests) (omega (arith, size, head_within request))
    (sym same) in
    no_prefix (record {
      rest = drop (length bytes) frame;
      completed = subst (IsFrame Requests) on (frame_is request fit.0);
    })
never_malformed (request ∷ requests) bytes rest ended fit same at_end (cut has_ended some less) =
    let none : rest ≡ [] = at_end has_ended in
    let whole : bytes ≡ frame_of request ++ frames requests =
    sym (append-nil bytes) ∙ ap (λ l. bytes ++ l) (sym none) ∙ sym same in
    less.begins_none (record {
      frame = frame_of request;
      rest = frames requests;
      is_frame = frame_is request fit.0;
      begins = whole;
    })
