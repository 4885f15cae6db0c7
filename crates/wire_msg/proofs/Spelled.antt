-- Bodies and the messages that they are of.
use Rattle.std.proofs.Common.{◌≡◌, ℕ, ◌+◌, ◌≤◌, ◌<◌, ◌^◌, List, [], ◌∷◌, ◌++◌, length, take, drop, get_or, refl, sym, ap, ◌∙◌, arith, inl, inr}
use Rattle.std.specs.declared.option.Option.{Option}
use Rattle.std.specs.declared.option.Option.TheVariants.{None, Some}
use Rattle.std.proofs.lemmas.List.{length-append, length-drop, take-append-drop, length-take-le, nil_from_length}
use Rattle.std.proofs.Math.Seq.{drop-cons}
use Rattle.wire_msg.proofs.ByteLists.{take_bytes, drop_bytes}
use Rattle.wire_msg.proofs.Fields.{laid_ask, laid_reply, laid_content, number_in, number8_in, part_size, part_bytes}
use Rattle.munge_types.specs.Bytes.{IsBytes}
use Rattle.wire_msg.specs.Fits.{FitsAsk, FitsContent, FitsDecodeSaid, FitsEncodeSaid, FitsFields, IsMessage}
use Rattle.wire_msg.specs.FrameHead.{AllowsSize, body_limit}
use Rattle.wire_msg.specs.Spelling.{body_of, content_bytes, kind_of}
use Rattle.wire_msg.specs.declared.kind.Kind.{Kind}
use Rattle.wire_msg.specs.declared.kind.Kind.TheVariants as kind
use Rattle.wire_msg.specs.declared.message.Content.{Content}
use Rattle.wire_msg.specs.declared.message.DecodeSaid.{DecodeSaid}
use Rattle.wire_msg.specs.declared.message.EncodeAsk.{EncodeAsk}
use Rattle.wire_msg.specs.declared.message.Message.{Message}
use Rattle.wire_msg.specs.declared.message.Message.TheVariants.{EncodeRequest, EncodeReply, DecodeRequest, DecodeReply, Stop, Bye}

-- some message has this body
pub record Spelled (kind : Kind) (body : List ℕ) : Type 0 where
  pub message : Message
  pub kind_is : kind_of message ≡ kind
  pub fits : FitsFields message
  pub body_is : body_of message ≡ body

number_fits : (fields : List ℕ) (at : ℕ) → IsBytes fields → number_in fields at < 2 ^ 32
number_fits fields at bytes =
    let part = part_bytes fields at 4 bytes in
    let first = part 0 in
    let second = part 1 in
    let third = part 2 in
    let fourth = part 3 in
    omega arith

number8_fits : (fields : List ℕ) (at : ℕ) → IsBytes fields → number8_in fields at < 2 ^ 64
number8_fits fields at bytes =
    let part = part_bytes fields at 8 bytes in
    let b0 = part 0 in
    let b1 = part 1 in
    let b2 = part 2 in
    let b3 = part 3 in
    let b4 = part 4 in
    let b5 = part 5 in
    let b6 = part 6 in
    let b7 = part 7 in
    omega arith

-- what the fields of an encode request ask
ask_in : (fields payload : List ℕ) → EncodeAsk
ask_in fields payload =
    record {
      cipher = get_or fields 0 0;
      kind = get_or fields 1 0;
      ttl = number_in fields 2;
      for_uid = number_in fields 6;
      for_gid = number_in fields 10;
      payload = payload;
    }

read_ask : (body : List ℕ) → 14 ≤ length body → IsBytes body → Spelled kind.EncodeRequest body
unfolding ask_in
read_ask body size bytes =
    let fields = take 14 body in
    let fields_size : length (take 14 body) ≡ 14 = length-take-le 14 body size in
    let fields_bytes = take_bytes 14 body bytes in
    record {
      message = EncodeRequest (ask_in fields (drop 14 body));
      kind_is = refl;
      fits =
          record {
            cipher = fields_bytes 0;
            kind = fields_bytes 1;
            ttl = number_fits fields 2 fields_bytes;
            for_uid = number_fits fields 6 fields_bytes;
            for_gid = number_fits fields 10 fields_bytes;
            payload = drop_bytes 14 body bytes;
          };
      body_is = ap (λ (l : List ℕ). l ++ drop 14 body) (laid_ask fields fields_size fields_bytes) ∙ take-append-drop 14 body;
    }

read_said : (body : List ℕ) → 1 ≤ length body → IsBytes body → Spelled kind.EncodeReply body
read_said body size bytes =
    record {
      message = EncodeReply (record { status = get_or body 0 0; text = drop 1 body });
      kind_is = refl;
      fits = record { status = bytes 0; text = drop_bytes 1 body bytes };
      body_is = sym (drop-cons body 0 0 size);
    }

-- what the fields of a decode reply say, with this content
decode_in : (fields : List ℕ) → Option Content → DecodeSaid
decode_in fields content =
    record { status = get_or fields 0 0; rule = get_or fields 1 0; place = number8_in fields 2; content = content }

content_in : (fields payload : List ℕ) → Content
content_in fields payload =
    record {
      cipher = get_or fields 0 0;
      kind = get_or fields 1 0;
      addr = take 4 (drop 2 fields);
      time = number_in fields 6;
      ttl = number_in fields 10;
      uid = number_in fields 14;
      gid = number_in fields 18;
      for_uid = number_in fields 22;
      for_gid = number_in fields 26;
      payload = payload;
    }

content_fits : (fields payload : List ℕ) → length fields ≡ 30 → IsBytes fields → IsBytes payload → FitsContent (content_in fields payload)
unfolding content_in
content_fits fields payload size bytes payload_bytes =
    record {
      fields =
          record {
            cipher = bytes 0;
            kind = bytes 1;
            addr_size = part_size fields 2 4 (omega (arith, size));
            addr = part_bytes fields 2 4 bytes;
            time = number_fits fields 6 bytes;
            ttl = number_fits fields 10 bytes;
            uid = number_fits fields 14 bytes;
            gid = number_fits fields 18 bytes;
            for_uid = number_fits fields 22 bytes;
            for_gid = number_fits fields 26 bytes;
          };
      payload = payload_bytes;
    }

content_laid : (fields payload : List ℕ) → length fields ≡ 30 → IsBytes fields
    → content_bytes (Some (content_in fields payload)) ≡ fields ++ payload
unfolding content_in
content_laid fields payload size bytes = ap (λ (l : List ℕ). l ++ payload) (laid_content fields size bytes)

read_refusal : (body : List ℕ) → length body ≡ 10 → IsBytes body → Spelled kind.DecodeReply body
unfolding decode_in
read_refusal body size bytes =
    let behind : drop 10 body ≡ [] = nil_from_length (drop 10 body) (simp length-drop (omega (arith, size))) in
    record {
      message = DecodeReply (decode_in body None);
      kind_is = refl;
      fits = record { status = bytes 0; rule = bytes 1; place = number8_fits body 2 bytes; content = tt };
      body_is = rw behind at (laid_reply body (omega (arith, size)) bytes);
    }

read_showing : (body : List ℕ) → 40 ≤ length body → IsBytes body → Spelled kind.DecodeReply body
unfolding decode_in
read_showing body size bytes =
    let content = drop 10 body in
    let content_bytes : IsBytes (drop 10 body) = drop_bytes 10 body bytes in
    let long : 30 ≤ length (drop 10 body) = simp length-drop (omega arith) in
    let fields_size : length (take 30 content) ≡ 30 = length-take-le 30 content long in
    let fields_bytes = take_bytes 30 content content_bytes in
    let laid = content_laid (take 30 content) (drop 30 content) fields_size fields_bytes ∙ take-append-drop 30 content in
    record {
      message = DecodeReply (decode_in body (Some (content_in (take 30 content) (drop 30 content))));
      kind_is = refl;
      fits =
          record {
            status = bytes 0;
            rule = bytes 1;
            place = number8_fits body 2 bytes;
            content = content_fits (take 30 content) (drop 30 content) fields_size fields_bytes (drop_bytes 30 content content_bytes);
          };
      body_is = rw laid (laid_reply body (omega arith) bytes);
    }

one_byte : (body : List ℕ) → length body ≡ 1 → body ≡ get_or body 0 0 ∷ []
one_byte body size =
    let behind : drop 1 body ≡ [] = nil_from_length (drop 1 body) (simp length-drop (omega (arith, size))) in
    rw behind at (drop-cons body 0 0 (omega (arith, size)))

-- bytes of an allowed length are a message's body
pub read_body : (kind : Kind) (body : List ℕ) → AllowsSize kind (length body) → IsBytes body → Spelled kind body
read_body kind.EncodeRequest body allowed bytes = read_ask body allowed.0 bytes
read_body kind.EncodeReply body allowed bytes = read_said body allowed.0 bytes
read_body kind.DecodeRequest body allowed bytes =
    record { message = DecodeRequest body; kind_is = refl; fits = bytes; body_is = refl }
read_body kind.DecodeReply body allowed bytes =
    elim allowed [ inl size ↦ read_refusal body size bytes | inr sizes ↦ read_showing body sizes.0 bytes ]
read_body kind.Stop body allowed bytes =
    record { message = Stop; kind_is = refl; fits = tt; body_is = sym (nil_from_length body allowed) }
read_body kind.Bye body allowed bytes =
    record { message = Bye (get_or body 0 0); kind_is = refl; fits = bytes 0; body_is = sym (one_byte body allowed) }

-- no length that is allowed is above the limit
pub allowed_within : (kind : Kind) (size : ℕ) → AllowsSize kind size → size ≤ body_limit
allowed_within kind.EncodeRequest size allowed = allowed.1
allowed_within kind.EncodeReply size allowed = allowed.1
allowed_within kind.DecodeRequest size allowed = allowed
allowed_within kind.DecodeReply size allowed = elim allowed [ inl same ↦ omega arith | inr sizes ↦ sizes.1 ]
allowed_within kind.Stop size allowed = omega arith
allowed_within kind.Bye size allowed = omega arith

content_size : (content : Content) → FitsContent content → length (content_bytes (Some content)) ≡ 30 + length content.payload
content_size content fits =
    let addr = fits.fields.addr_size in
    simp length-append (omega (arith, addr))

reply_allowed : (content : Option Content) (size : ℕ) → Rattle.wire_msg.specs.Fits.FitsIfAny content → size ≡ 10 + length (content_bytes content)
    → size ≤ body_limit → AllowsSize kind.DecodeReply size
reply_allowed None size fits same within = inl same
reply_allowed (Some content) size fits same within =
    let shown = content_size content fits in
    inr (omega (arith, same, shown), within)

-- a message's body has an allowed length
pub body_allowed : (message : Message) → FitsFields message → length (body_of message) ≤ body_limit
    → AllowsSize (kind_of message) (length (body_of message))
body_allowed (EncodeRequest ask) fits within = (simp length-append (omega arith), within)
body_allowed (EncodeReply said) fits within = (omega arith, within)
body_allowed (DecodeRequest text) fits within = within
body_allowed (DecodeReply said) fits within = reply_allowed said.content (length (body_of (DecodeReply said))) fits.content (omega arith) within
body_allowed Stop fits within = refl
body_allowed (Bye status) fits within = refl
