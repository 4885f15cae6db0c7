-- Laws of frames.
use Rattle.std.proofs.Common.{◌≡◌, ℕ, List, [], ◌∷◌, ◌++◌, length, take, drop, refl, sym, ap, ◌∙◌, arith, inl, inr}
use Rattle.std.specs.declared.option.Option.{Option}
use Rattle.std.specs.declared.option.Option.TheVariants.{None, Some}
use Rattle.std.proofs.lemmas.Bool.{cases_lt}
use Rattle.std.proofs.lemmas.List.{append_assoc, append-nil, length-append, nil_from_length, take-append-le, take-append-drop}
use Rattle.std.proofs.Math.Seq.{take-append_seam}
use Rattle.munge_types.specs.BigEndian.{be32, be64}
use Rattle.wire_msg.proofs.Frames.{frames_apart, heads_apart, unfinished_part}
use Rattle.wire_msg.proofs.SeenHead.{sees_none}
use Rattle.wire_msg.proofs.Parts.{apart, number_apart, number8_apart}
use Rattle.wire_msg.proofs.Spelled.{body_allowed}
use Rattle.wire_msg.specs.Fits.{FitsAsk, FitsContent, FitsDecodeSaid, FitsFields, FitsIfAny, IsMessage}
use Rattle.wire_msg.specs.Frame.{BeginsFrame, IsFrame, IsNoFrame, IsUnfinished}
use Rattle.wire_msg.specs.FrameHead.{message_head}
use Rattle.wire_msg.specs.Spelling.{body_of, content_bytes, frame_of, kind_of}
use Rattle.wire_msg.specs.declared.kind.Side.{Side}
use Rattle.wire_msg.specs.declared.message.Content.{Content}
use Rattle.wire_msg.specs.declared.message.DecodeSaid.{DecodeSaid}
use Rattle.wire_msg.specs.declared.message.EncodeAsk.{EncodeAsk}
use Rattle.wire_msg.specs.declared.message.EncodeSaid.{EncodeSaid}
use Rattle.wire_msg.specs.declared.message.Message.{Message}
use Rattle.wire_msg.specs.declared.message.Message.TheVariants.{EncodeRequest, EncodeReply, DecodeRequest, DecodeReply, Stop, Bye}

made_ask : (cipher kind ttl for_uid for_gid : ℕ) (payload : List ℕ) → EncodeAsk
made_ask cipher kind ttl for_uid for_gid payload =
    record { cipher = cipher; kind = kind; ttl = ttl; for_uid = for_uid; for_gid = for_gid; payload = payload }

made_of_ask : (a : EncodeAsk) → a ≡ made_ask a.cipher a.kind a.ttl a.for_uid a.for_gid a.payload
unfolding made_ask
made_of_ask a = refl

ask_once : (a b : EncodeAsk) → FitsAsk a → FitsAsk b → body_of (EncodeRequest a) ≡ body_of (EncodeRequest b) → a ≡ b
ask_once a b fits_a fits_b same =
    let cipher : a.cipher ≡ b.cipher = cc same in
    let kind : a.kind ≡ b.kind = cc same in
    let rest_ttl : be32 a.ttl ++ (be32 a.for_uid ++ (be32 a.for_gid ++ a.payload)) ≡ be32 b.ttl ++ (be32 b.for_uid ++ (be32 b.for_gid ++ b.payload)) =
    cc same in
    let ttl = number_apart a.ttl b.ttl _ _ fits_a.ttl fits_b.ttl rest_ttl in
    let for_uid = number_apart a.for_uid b.for_uid _ _ fits_a.for_uid fits_b.for_uid ttl.behind in
    let for_gid = number_apart a.for_gid b.for_gid _ _ fits_a.for_gid fits_b.for_gid for_uid.behind in
    let ttl_is = ttl.number in
    let for_uid_is = for_uid.number in
    let for_gid_is = for_gid.number in
    let payload = for_gid.behind in
    let first = made_of_ask a in
    let second = made_of_ask b in
    cc

made_said : (status : ℕ) (text : List ℕ) → EncodeSaid
made_said status text = record { status = status; text = text }

made_of_said : (a : EncodeSaid) → a ≡ made_said a.status a.text
unfolding made_said
made_of_said a = refl

said_once : (a b : EncodeSaid) → body_of (EncodeReply a) ≡ body_of (EncodeReply b) → a ≡ b
said_once a b same =
    let status : a.status ≡ b.status = cc same in
    let text : a.text ≡ b.text = cc same in
    let first = made_of_said a in
    let second = made_of_said b in
    cc

made_content : (cipher kind : ℕ) (addr : List ℕ) (time ttl uid gid for_uid for_gid : ℕ) (payload : List ℕ) → Content
made_content cipher kind addr time ttl uid gid for_uid for_gid payload =
    record {
      cipher = cipher;
      kind = kind;
      addr = addr;
      time = time;
      ttl = ttl;
      uid = uid;
      gid = gid;
      for_uid = for_uid;
      for_gid = for_gid;
      payload = payload;
    }

made_of_content : (a : Content) → a ≡ made_content a.cipher a.kind a.addr a.time a.ttl a.uid a.gid a.for_uid a.for_gid a.payload
unfolding made_content
made_of_content a = refl

-- the fields of a content, one after another
behind_kind : Content → List ℕ
behind_kind a =
    a.addr ++ (be32 a.time ++ (be32 a.ttl ++ (be32 a.uid ++ (be32 a.gid ++ (be32 a.for_uid ++ (be32 a.for_gid ++ a.payload))))))

content_laid : (a : Content) → content_bytes (Some a) ≡ a.cipher ∷ a.kind ∷ behind_kind a
unfolding behind_kind
content_laid a = simp append_assoc

content_once : (a b : Content) → FitsContent a → FitsContent b → content_bytes (Some a) ≡ content_bytes (Some b) → a ≡ b
unfolding behind_kind
content_once a b fits_a fits_b equal =
    let fa = fits_a.fields in
    let fb = fits_b.fields in
    let same : a.cipher ∷ a.kind ∷ behind_kind a ≡ b.cipher ∷ b.kind ∷ behind_kind b = sym (content_laid a) ∙ (equal ∙ content_laid b) in
    let cipher : a.cipher ≡ b.cipher = cc same in
    let kind : a.kind ≡ b.kind = cc same in
    let rest : behind_kind a ≡ behind_kind b = cc same in
    let addr = apart a.addr b.addr _ _ (fa.addr_size ∙ sym fb.addr_size) rest in
    let time = number_apart a.time b.time _ _ fa.time fb.time addr.behind in
    let ttl = number_apart a.ttl b.ttl _ _ fa.ttl fb.ttl time.behind in
    let uid = number_apart a.uid b.uid _ _ fa.uid fb.uid ttl.behind in
    let gid = number_apart a.gid b.gid _ _ fa.gid fb.gid uid.behind in
    let for_uid = number_apart a.for_uid b.for_uid _ _ fa.for_uid fb.for_uid gid.behind in
    let for_gid = number_apart a.for_gid b.for_gid _ _ fa.for_gid fb.for_gid for_uid.behind in
    let addr_is = addr.front in
    let time_is = time.number in
    let ttl_is = ttl.number in
    let uid_is = uid.number in
    let gid_is = gid.number in
    let for_uid_is = for_uid.number in
    let for_gid_is = for_gid.number in
    let payload = for_gid.behind in
    let first = made_of_content a in
    let second = made_of_content b in
    cc

if_any_once : (a b : Option Content) → FitsIfAny a → FitsIfAny b → content_bytes a ≡ content_bytes b → a ≡ b
if_any_once None None fits_a fits_b same = refl
if_any_once None (Some b) fits_a fits_b same = cc same
if_any_once (Some a) None fits_a fits_b same = cc same
if_any_once (Some a) (Some b) fits_a fits_b same = ap Some (content_once a b fits_a fits_b same)

made_decode : (status rule place : ℕ) → Option Content → DecodeSaid
made_decode status rule place content = record { status = status; rule = rule; place = place; content = content }

made_of_decode : (a : DecodeSaid) → a ≡ made_decode a.status a.rule a.place a.content
unfolding made_decode
made_of_decode a = refl

decode_once : (a b : DecodeSaid) → FitsDecodeSaid a → FitsDecodeSaid b → body_of (DecodeReply a) ≡ body_of (DecodeReply b) → a ≡ b
decode_once a b fits_a fits_b same =
    let status : a.status ≡ b.status = cc same in
    let rule : a.rule ≡ b.rule = cc same in
    let rest : be64 a.place ++ content_bytes a.content ≡ be64 b.place ++ content_bytes b.content = cc same in
    let place = number8_apart a.place b.place (content_bytes a.content) (content_bytes b.content) fits_a.place fits_b.place rest in
    let place_is = place.number in
    let content = if_any_once a.content b.content fits_a.content fits_b.content place.behind in
    let first = made_of_decode a in
    let second = made_of_decode b in
    cc

-- messages of one kind with one body are one
body_once : (a b : Message) → FitsFields a → FitsFields b → kind_of a ≡ kind_of b → body_of a ≡ body_of b → a ≡ b
body_once (EncodeRequest a) (EncodeRequest b) fits_a fits_b kinds same = ap EncodeRequest (ask_once a b fits_a fits_b same)
body_once (EncodeReply a) (EncodeReply b) fits_a fits_b kinds same = ap EncodeReply (said_once a b same)
body_once (DecodeRequest a) (DecodeRequest b) fits_a fits_b kinds same = ap DecodeRequest same
body_once (DecodeReply a) (DecodeReply b) fits_a fits_b kinds same = ap DecodeReply (decode_once a b fits_a fits_b same)
body_once Stop Stop fits_a fits_b kinds same = refl
body_once (Bye a) (Bye b) fits_a fits_b kinds same = let status : a ≡ b = cc same in ap Bye status
body_once _ _ fits_a fits_b kinds same = cc kinds

pub frame_once : (side other : Side) (first second : Message) → IsMessage side first → IsMessage other second
    → frame_of first ≡ frame_of second → first ≡ second
frame_once side other first second is_first is_second same =
    let allowed = body_allowed first is_first.fits is_first.within in
    let other_allowed = body_allowed second is_second.fits is_second.within in
    let parts =
    heads_apart (kind_of first) (kind_of second) (length (body_of first)) (length (body_of second)) (body_of first) (body_of second) allowed other_allowed same in
    body_once first second is_first.fits is_second.fits parts.kind parts.behind

pub no_longer_frame : (side : Side) (frame more : List ℕ) → IsFrame side frame → IsFrame side (frame ++ more) → more ≡ []
no_longer_frame side frame more is_frame longer =
    (frames_apart side frame (frame ++ more) more [] is_frame longer (sym (append-nil (frame ++ more)))).behind

-- what begins with a frame, or goes on to one, after more bytes, did or does so before
begun_before : (side : Side) (bytes more : List ℕ) → IsNoFrame side bytes → BeginsFrame side (bytes ++ more) → ⊥
begun_before side bytes more none begun =
    let frame = begun.frame in
    let rest = begun.rest in
    let begins = begun.begins in
    elim (cases_lt (length bytes) (length frame)) [
      | inl longer ↦
          let front : bytes ≡ take (length bytes) frame =
          sym (take-append_seam bytes more)
          ∙ (ap (λ (l : List ℕ). take (length bytes) l) begins ∙ take-append-le (length bytes) frame rest (omega arith)) in
          let whole : bytes ++ drop (length bytes) frame ≡ frame =
          ap (λ (l : List ℕ). l ++ drop (length bytes) frame) front ∙ take-append-drop (length bytes) frame in
          none.goes_on_to_none (record { rest = drop (length bytes) frame; completed = rw whole begun.is_frame })
      | inr within ↦
          let front : take (length frame) bytes ≡ frame =
          sym (take-append-le (length frame) bytes more within)
          ∙ (ap (λ (l : List ℕ). take (length frame) l) begins ∙ take-append_seam frame rest) in
          none.begins_none
          (record {
            frame = frame;
            rest = drop (length frame) bytes;
            is_frame = begun.is_frame;
            begins = sym (take-append-drop (length frame) bytes) ∙ ap (λ (l : List ℕ). l ++ drop (length frame) bytes) front;
          })
    ]

pub no_frame_later : (side : Side) (bytes more : List ℕ) → IsNoFrame side bytes → IsNoFrame side (bytes ++ more)
no_frame_later side bytes more none =
    record {
      begins_none = begun_before side bytes more none;
      goes_on_to_none = λ prefix.
          none.goes_on_to_none (record { rest = more ++ prefix.rest; completed = rw (← append_assoc bytes more prefix.rest) prefix.completed });
    }

pub message_allowed : (side : Side) (message : Message) → IsMessage side message
    → Rattle.wire_msg.specs.FrameHead.AllowsSize (kind_of message) (length (body_of message))
message_allowed side message is_message = body_allowed message is_message.fits is_message.within

pub none_unfinished : (side : Side) → IsUnfinished side []
none_unfinished side =
    let sees = sees_none side [] refl in
    unfinished_part side [] sees.0 sees.1

pub fewer_unfinished : (side : Side) (bytes more : List ℕ) → IsUnfinished side (bytes ++ more) → IsUnfinished side bytes
fewer_unfinished side bytes more unfinished =
    record {
      rest = more ++ unfinished.rest;
      wants_some = λ none.
          let lengths = ap length none in
          unfinished.wants_some (nil_from_length unfinished.rest (omega (arith, lengths, length-append more unfinished.rest)));
      completed = rw (← append_assoc bytes more unfinished.rest) unfinished.completed;
    }
