-- What is known of a stream of which a part of a request was read.
use Rattle.std.proofs.Common.{◌≡◌, ◌≢◌, ℕ, ◌+◌, ◌-◌, ◌<◌, ◌≤◌, ◌^◌, ◌⊎◌, List, [], ◌++◌, length, take, drop, replicate, get_or, refl, sym, ap, ◌∙◌, subst, arith, inl, inr, lit<}
use Rattle.std.proofs.lemmas.Bool.{cases_lt}
use Rattle.std.proofs.lemmas.List.{append_assoc, append-nil, get_or-append_right, get_or_append_left, get_or-replicate, get_or-take, get_or_past, length-append, length-replicate, length-take, nil_from_length}
use Rattle.std.proofs.lemmas.Nat.{from_be_bytes-to_be_bytes_4}
use Rattle.std.proofs.Math.Seq.{take-length}
use Rattle.std.specs.Int.{w32, from_be_bytes}
use Rattle.std.specs.Io.KnownBytes.{Consumes}
use Rattle.byte_io.proofs.StreamLemmas.{consumes_more}
use Rattle.munge_types.specs.BigEndian.{be32}
use Rattle.munge_types.specs.Bytes.{IsBytes}
use Rattle.wire_msg.specs.Feeding.{Answers, Feeding, Leaves}
use Rattle.wire_msg.specs.Fits.{IsMessage}
use Rattle.wire_msg.specs.Frame.{BeginsFrame, IsFrame, IsFramePrefix, IsUnfinished}
use Rattle.wire_msg.specs.FrameHead.{body_limit, head_size}
use Rattle.wire_msg.specs.Spelling.{body_of, frame_of}
use Rattle.wire_msg.specs.declared.fed.Fed.TheVariants as fed
use Rattle.wire_msg.specs.declared.kind.Side.{Side}
use Rattle.wire_msg.specs.declared.kind.Side.TheVariants.{Requests}
use Rattle.wire_msg.specs.declared.message.Message.{Message}
use Rattle.session_core.specs.Partial.{Comes, HeadRefused, KeepsOf, ReadsOn, Stops, Wants, behind}
use Rattle.session_core.specs.Reading.{Counted, IsLessThanOne, broken, cut, Reads, ReadsNone}
use Rattle.session_core.specs.Things.{CameToEnd, Input}
use Rattle.session_core.specs.declared.request.Progress.{Progress}
use Rattle.session_core.specs.declared.request.Progress.TheVariants.{Whole, Partial}
use Rattle.session_core.specs.declared.request.Unread.{Unread}
use Rattle.session_core.specs.declared.request.Unread.TheVariants.{Ended, Malformed, ReadFault, NoMemory}

-- ---- lists that are bytes

append_bytes : (xs ys : List ℕ) → IsBytes xs → IsBytes ys → IsBytes (xs ++ ys)
append_bytes xs ys first second i =
    elim (cases_lt i (length xs)) [
      | inl inside ↦ rw (get_or_append_left xs ys 0 i inside) (first i)
      | inr past ↦ rw (get_or-append_right xs ys (length xs) i 0 refl past) (second (i - length xs))
    ]

take_bytes : (n : ℕ) (xs : List ℕ) → IsBytes xs → IsBytes (take n xs)
take_bytes n xs bytes i =
    elim (cases_lt i n) [
      | inl inside ↦ rw (get_or-take n xs i 0 inside) (bytes i)
      | inr past ↦
          let short : length (take n xs) ≤ i = simp length-take (omega arith) in
          rw (get_or_past (take n xs) i 0 short) (lit< tt)
    ]

-- what stands in front of other bytes is bytes too
pub front_bytes : (xs ys : List ℕ) → IsBytes (xs ++ ys) → IsBytes xs
front_bytes xs ys bytes i =
    elim (cases_lt i (length xs)) [
      | inl inside ↦ subst (λ n. n < 256) (get_or_append_left xs ys 0 i inside) (bytes i)
      | inr past ↦ rw (get_or_past xs i 0 past) (lit< tt)
    ]

zero_bytes : (n : ℕ) → IsBytes (replicate n 0)
zero_bytes n i =
    let zeros : List ℕ = replicate n 0 in
    elim (cases_lt i n) [
      | inl inside ↦ rw (get_or-replicate {A = ℕ} n i 0 0 inside) (lit< tt)
      | inr past ↦
          let size : length zeros ≡ n = length-replicate n 0 in
          rw (get_or_past zeros i 0 (omega (arith, size))) (lit< tt)
    ]

-- ---- frames

-- a frame is a head and a body
pub frame_size : (message : Message) → length (frame_of message) ≡ head_size + length (body_of message)
frame_size message = omega arith

-- a length is spelled in one way
pub be32_injective : (m n : ℕ) → m < 2 ^ 32 → n < 2 ^ 32 → be32 m ≡ be32 n → m ≡ n
be32_injective m n m_fits n_fits same =
    sym (from_be_bytes-to_be_bytes_4 m m_fits) ∙ ap (from_be_bytes w32) same ∙ from_be_bytes-to_be_bytes_4 n n_fits

-- nothing stands behind a frame where that is a frame too
nothing_behind : (first second : Message) (rest : List ℕ) → length (body_of first) ≤ body_limit → length (body_of second) ≤ body_limit
    → frame_of first ++ rest ≡ frame_of second → length rest ≡ 0
nothing_behind first second rest first_within second_within same =
    let sizes : length (body_of first) ≡ length (body_of second) =
    be32_injective (length (body_of first)) (length (body_of second)) (omega arith) (omega arith) (ap (λ l. take 4 (drop 3 l)) same) in
    let lengths = ap length same in
    omega (arith, length-append (frame_of first) rest, frame_size first, frame_size second, lengths, sizes)

-- what is not all of a frame begins with none
unfinished_begins_none : (side : Side) (bytes : List ℕ) → IsUnfinished side bytes → ¬ BeginsFrame side bytes
unfinished_begins_none side bytes unfinished begins =
    let first = begins.is_frame in
    let second = unfinished.completed in
    let rest = begins.rest ++ unfinished.rest in
    let joined : frame_of first.message ++ rest ≡ frame_of second.message =
    ap (λ l. l ++ rest) (sym first.spelled) ∙ sym (append_assoc begins.frame begins.rest unfinished.rest)
    ∙ ap (λ l. l ++ unfinished.rest) (sym begins.begins) ∙ second.spelled in
    let none = nothing_behind first.message second.message rest first.is_message.within second.is_message.within joined in
    unfinished.wants_some (nil_from_length unfinished.rest (omega (arith, none, length-append begins.rest unfinished.rest)))

frame_not_unfinished : (side : Side) (bytes : List ℕ) → IsFrame side bytes → IsUnfinished side bytes → ⊥
frame_not_unfinished side bytes frame unfinished =
    unfinished_begins_none side bytes unfinished
    (record { frame = bytes; rest = []; is_frame = frame; begins = sym (append-nil bytes) })

unfinished_prefix : (side : Side) (bytes : List ℕ) → IsUnfinished side bytes → IsFramePrefix side bytes
unfinished_prefix side bytes unfinished = record { rest = unfinished.rest; completed = unfinished.completed }

unfinished_less : (bytes : List ℕ) → IsUnfinished Requests bytes → IsLessThanOne bytes
unfinished_less bytes unfinished =
    record {
      begins_none = unfinished_begins_none Requests bytes unfinished;
      within = inr (unfinished_prefix Requests bytes unfinished);
    }

-- ---- a head

-- what begins with a frame has a head at least, and what is behind it
begins_size : (side : Side) (bytes : List ℕ) (begins : BeginsFrame side bytes) → head_size + length begins.rest ≤ length bytes
begins_size side bytes begins =
    let whole = ap length begins.begins in
    let spelled = ap length begins.is_frame.spelled in
    omega (arith, whole, spelled, length-append begins.frame begins.rest, frame_size begins.is_frame.message)

pub short_head : (bytes : List ℕ) → length bytes < head_size → IsLessThanOne bytes
short_head bytes short =
    record { begins_none = λ begins. omega (arith, begins_size Requests bytes begins); within = inl short }

take_all : (n : ℕ) (bytes : List ℕ) → n ≡ length bytes → take n bytes ≡ bytes
take_all n bytes all = ap (λ m. take m bytes) all ∙ take-length bytes

-- a frame that ends within a head is the head
head_whole : (used : ℕ) (head : List ℕ) (message : Message) → length head ≡ head_size → used ≤ length head
    → take used head ≡ frame_of message → head ≡ frame_of message
head_whole used head message seven within same =
    let sizes = ap length same in
    let all : used ≡ length head = omega (arith, frame_size message, simp length-take at sizes) in
    sym (take_all used head all) ∙ same

-- a head that begins with a frame, or is a front of one, is a prefix of one
head_prefix : (side : Side) (head : List ℕ) → length head ≡ head_size → BeginsFrame side head ⊎ IsUnfinished side head → IsFramePrefix side head
head_prefix side head seven (inl begins) =
    let none : begins.rest ≡ [] = nil_from_length begins.rest (omega (arith, begins_size side head begins)) in
    let all : begins.frame ≡ head ++ [] =
    sym (append-nil begins.frame) ∙ ap (λ l. begins.frame ++ l) (sym none) ∙ sym begins.begins ∙ sym (append-nil head) in
    record { rest = []; completed = subst (IsFrame side) all begins.is_frame }
head_prefix side head seven (inr unfinished) = unfinished_prefix side head unfinished

-- ---- what is wanted, and a piece of that

-- a piece that is not too long is a part of a request, and its rest may be zeros
padded : (bytes part : List ℕ) (n : ℕ) → Wants bytes n → IsBytes part → length part ≤ n
    → IsFrame Requests ((bytes ++ part) ++ replicate (n - length part) 0)
padded bytes part n wants part_bytes within =
    let zeros : List ℕ = replicate (n - length part) 0 in
    let size : length (part ++ zeros) ≡ n =
    length-append part zeros ∙ ap (λ m. length part + m) (length-replicate (n - length part) 0) ∙ omega arith in
    subst (IsFrame Requests) (sym (append_assoc bytes part zeros))
    (wants.enough (part ++ zeros) (append_bytes part zeros part_bytes (zero_bytes (n - length part))) size)

pub part_prefix : (bytes part : List ℕ) (n : ℕ) → Wants bytes n → IsBytes part → length part ≤ n → IsFramePrefix Requests (bytes ++ part)
part_prefix bytes part n wants part_bytes within =
    record { rest = replicate (n - length part) 0; completed = padded bytes part n wants part_bytes within }

part_unfinished : (bytes part : List ℕ) (n : ℕ) → Wants bytes n → IsBytes part → length part < n → IsUnfinished Requests (bytes ++ part)
part_unfinished bytes part n wants part_bytes short =
    record {
      rest = replicate (n - length part) 0;
      wants_some = λ none.
          let empty = ap length none in
          let size = length-replicate {A = ℕ} (n - length part) 0 in
          omega (arith, short, empty, size);
      completed = padded bytes part n wants part_bytes (omega arith);
    }

-- a request that ends within a piece of what is wanted ends with it
piece_whole : (bytes piece : List ℕ) (n used : ℕ) (message : Message) → Wants bytes n → length piece ≤ n → used ≤ length piece
    → IsMessage Requests message → bytes ++ take used piece ≡ frame_of message → bytes ++ piece ≡ frame_of message
piece_whole bytes piece n used message wants within inside is_message same =
    let needs : n ≤ length (take used piece) =
    wants.least (take used piece) (record { message = message; is_message = is_message; spelled = same }) in
    let all : used ≡ length piece = omega (arith, simp length-take at needs) in
    ap (λ l. bytes ++ l) (sym (take_all used piece all)) ∙ same

-- where a request does not, the rest is wanted
piece_more : (bytes piece : List ℕ) (n : ℕ) → Wants bytes n → IsBytes piece → length piece ≤ n
    → IsUnfinished Requests (bytes ++ piece) → Wants (bytes ++ piece) (n - length piece)
piece_more bytes piece n wants piece_bytes within unfinished =
    record {
      enough = λ more more_bytes size.
          let sizes : length (piece ++ more) ≡ n = length-append piece more ∙ omega arith in
          subst (IsFrame Requests) (sym (append_assoc bytes piece more))
          (wants.enough (piece ++ more) (append_bytes piece more piece_bytes more_bytes) sizes);
      least = λ more frame.
          let needs = wants.least (piece ++ more) (subst (IsFrame Requests) (append_assoc bytes piece more) frame) in
          omega (arith, needs, length-append piece more);
      some = elim (cases_lt (length piece) n) [
        | inl short ↦ omega arith
        | inr long ↦
            let all : length piece ≡ n = omega arith in
            absurd (frame_not_unfinished Requests (bytes ++ piece) (wants.enough piece piece_bytes all) unfinished)
      ];
    }

-- ---- what a feeder answers

pub head_comes : (kept : Feeding) (head : List ℕ) (message : Message) (used : ℕ) → kept.side ≡ Requests → kept.unfinished ≡ []
    → length head ≡ head_size → Answers kept head (fed.Message message used) → Comes head (Whole message)
head_comes kept head message used requests none seven answers = (
  subst (λ side. IsMessage side message) requests answers.0,
  head_whole used head message seven answers.1 (ap (λ l. l ++ take used head) (sym none) ∙ answers.2),
)

pub head_no_memory : (kept : Feeding) (head : List ℕ) → kept.side ≡ Requests → kept.unfinished ≡ [] → length head ≡ head_size
    → BeginsFrame kept.side (kept.unfinished ++ head) ⊎ IsUnfinished kept.side (kept.unfinished ++ head) → IsFramePrefix Requests head
head_no_memory kept head requests none seven begun =
    head_prefix Requests head seven
    (subst (λ l. BeginsFrame Requests (l ++ head) ⊎ IsUnfinished Requests (l ++ head)) none
    (subst (λ side. BeginsFrame side (kept.unfinished ++ head) ⊎ IsUnfinished side (kept.unfinished ++ head)) requests begun))

-- what is wanted behind a head
pub head_wants : (kept kept' : Feeding) (head : List ℕ) (n : ℕ) → kept.side ≡ Requests → kept'.side ≡ kept.side → kept.unfinished ≡ []
    → length head ≡ head_size → Answers kept head fed.More → Leaves kept head fed.More kept'
    → ((piece : List ℕ) → IsFrame kept'.side (kept'.unfinished ++ piece) → n ≤ length piece)
    → (IsUnfinished kept'.side kept'.unfinished → head_size ≤ length kept'.unfinished → (piece : List ℕ) → IsBytes piece
    → length piece ≡ n → IsFrame kept'.side (kept'.unfinished ++ piece))
    → (IsUnfinished kept'.side kept'.unfinished → 1 ≤ n) → Wants head n
head_wants kept kept' head n requests same_side none seven answers leaves least enough some =
    let same : kept'.unfinished ≡ head = leaves.0 ∙ ap (λ l. l ++ head) none in
    let requests' : kept'.side ≡ Requests = same_side ∙ requests in
    let begun : IsUnfinished kept'.side kept'.unfinished =
    subst (λ side. IsUnfinished side kept'.unfinished) (sym same_side) (subst (IsUnfinished kept.side) (sym leaves.0) answers) in
    let whole : head_size ≤ length kept'.unfinished = omega (arith, ap length same) in
    record {
      enough = λ piece bytes size.
          subst (λ l. IsFrame Requests (l ++ piece)) same
          (subst (λ side. IsFrame side (kept'.unfinished ++ piece)) requests' (enough begun whole piece bytes size));
      least = λ piece frame.
          least piece
          (subst (λ side. IsFrame side (kept'.unfinished ++ piece)) (sym requests') (subst (λ l. IsFrame Requests (l ++ piece)) (sym same) frame));
      some = some begun;
    }

pub piece_comes : (kept : Feeding) (piece : List ℕ) (n : ℕ) (message : Message) (used : ℕ) → kept.side ≡ Requests → Wants kept.unfinished n
    → length piece ≤ n → Answers kept piece (fed.Message message used) → Comes (kept.unfinished ++ piece) (Whole message)
piece_comes kept piece n message used requests wants within answers =
    let is_message = subst (λ side. IsMessage side message) requests answers.0 in
    (is_message, piece_whole kept.unfinished piece n used message wants within answers.1 is_message answers.2)

pub piece_wants : (kept : Feeding) (piece : List ℕ) (n : ℕ) → kept.side ≡ Requests → Wants kept.unfinished n → IsBytes piece
    → length piece ≤ n → Answers kept piece fed.More → Wants (kept.unfinished ++ piece) (n - length piece)
piece_wants kept piece n requests wants bytes within answers =
    piece_more kept.unfinished piece n wants bytes within
    (subst (λ side. IsUnfinished side (kept.unfinished ++ piece)) requests answers)

pub piece_not_bad : (kept : Feeding) (piece : List ℕ) (n place : ℕ) → kept.side ≡ Requests → Wants kept.unfinished n → IsBytes piece
    → length piece ≤ n → Answers kept piece (fed.Bad place) → ⊥
piece_not_bad kept piece n place requests wants bytes within answers =
    answers.0.goes_on_to_none
    (subst (λ side. IsFramePrefix side (kept.unfinished ++ piece)) (sym requests) (part_prefix kept.unfinished piece n wants bytes within))

-- less than a piece of what is wanted
pub piece_cut : (bytes piece : List ℕ) (n read : ℕ) → Wants bytes n → IsBytes piece → length piece ≤ n → read < length piece
    → IsUnfinished Requests (bytes ++ take read piece)
piece_cut bytes piece n read wants piece_bytes within short =
    part_unfinished bytes (take read piece) n wants (take_bytes read piece piece_bytes) (simp length-take (omega arith))

-- ---- reads, one after another

-- the end was found later as well
end_since : (a b c : Input) → a.ends ≤ b.ends → CameToEnd b c → CameToEnd a c
end_since a b c stays came = record { found = omega (arith, stays, came.found); nothing_left = came.nothing_left }

-- what holds of the bytes behind the second ones holds behind the first
reads_more : (a b c : Input) (so_far so_far' : List ℕ) (P : List ℕ → Type 0) → Reads a b (λ bytes. so_far' ≡ so_far ++ bytes)
    → Reads b c (λ bytes. P (so_far' ++ bytes)) → Reads a c (λ bytes. P (so_far ++ bytes))
reads_more a b c so_far so_far' P first second =
    let joined : so_far' ++ second.bytes ≡ so_far ++ (first.bytes ++ second.bytes) =
    ap (λ l. l ++ second.bytes) first.holds ∙ append_assoc so_far first.bytes second.bytes in
    record {
      bytes = first.bytes ++ second.bytes;
      consumed = consumes_more a.left b.left c.left first.bytes second.bytes first.consumed second.consumed;
      holds = subst P joined second.holds;
    }

-- so many bytes more are so many behind the first ones
counted_more : (a b c : Input) (so_far so_far' : List ℕ) (earlier count : ℕ) (P : List ℕ → Type 0)
    → length so_far' ≡ length so_far + earlier → Reads a b (λ bytes. so_far' ≡ so_far ++ bytes)
    → Reads b c (Counted count (λ bytes. P (so_far' ++ bytes))) → Reads a c (Counted (earlier + count) (λ bytes. P (so_far ++ bytes)))
counted_more a b c so_far so_far' earlier count P size first second =
    let joined : so_far' ++ second.bytes ≡ so_far ++ (first.bytes ++ second.bytes) =
    ap (λ l. l ++ second.bytes) first.holds ∙ append_assoc so_far first.bytes second.bytes in
    let front = ap length first.holds in
    record {
      bytes = first.bytes ++ second.bytes;
      consumed = consumes_more a.left b.left c.left first.bytes second.bytes first.consumed second.consumed;
      holds = (
        omega (arith, size, front, length-append so_far first.bytes, length-append first.bytes second.bytes, second.holds.0),
        subst P joined second.holds.1,
      );
    }

-- a stop in the rest of a request is one in all of it
pub stops_more : (cause : Unread) (a b c : Input) (so_far so_far' : List ℕ) (earlier : ℕ) → length so_far' ≡ length so_far + earlier
    → a.ends ≤ b.ends → Reads a b (λ bytes. so_far' ≡ so_far ++ bytes) → Stops cause so_far' b c → Stops (behind earlier cause) so_far a c
stops_more Ended a b c so_far so_far' earlier size stays first stops = absurd stops
stops_more (Malformed count) a b c so_far so_far' earlier size stays first stops =
    (counted_more a b c so_far so_far' earlier count (IsUnfinished Requests) size first stops.0, end_since a b c stays stops.1)
stops_more (ReadFault count) a b c so_far so_far' earlier size stays first stops =
    counted_more a b c so_far so_far' earlier count (IsUnfinished Requests) size first stops
stops_more (NoMemory count) a b c so_far so_far' earlier size stays first stops =
    counted_more a b c so_far so_far' earlier count (IsFramePrefix Requests) size first stops

-- what is wanted of a request is no more than a body and a head have
pub wants_within : (bytes : List ℕ) (n : ℕ) → Wants bytes n → n ≤ head_size + body_limit
wants_within bytes n wants =
    let zeros : List ℕ = replicate n 0 in
    let size : length zeros ≡ n = length-replicate n 0 in
    let frame = wants.enough zeros (zero_bytes n) size in
    let spelled = ap length frame.spelled in
    let within = frame.is_message.within in
    omega (arith, size, spelled, within, length-append bytes zeros, frame_size frame.message)

-- so is what came of it
pub reads_on_more : (a b c : Input) (kept kept' kept'' : Feeding) (progress : Progress) → kept'.begins ≡ kept.begins
    → Reads a b (λ bytes. kept'.unfinished ≡ kept.unfinished ++ bytes) → ReadsOn kept' b c progress kept'' → ReadsOn kept a c progress kept''
reads_on_more a b c kept kept' kept'' progress same first second =
    reads_more a b c kept.unfinished kept'.unfinished (λ bytes. Comes bytes progress × KeepsOf kept.begins bytes progress kept'') first
    (subst (λ begins. Reads b c (λ bytes. Comes (kept'.unfinished ++ bytes) progress × KeepsOf begins (kept'.unfinished ++ bytes) progress kept'')) same second)

-- where it stays a part, the feeder keeps what was read
reads_part : (a b : Input) (kept kept' : Feeding) (wanted : ℕ) → ReadsOn kept a b (Partial wanted) kept'
    → Reads a b (λ bytes. kept'.unfinished ≡ kept.unfinished ++ bytes)
reads_part a b kept kept' wanted reads = record { bytes = reads.bytes; consumed = reads.consumed; holds = reads.holds.1.0 }

pub part_wants : (a b : Input) (kept kept' : Feeding) (wanted : ℕ) → ReadsOn kept a b (Partial wanted) kept' → Wants kept'.unfinished wanted
part_wants a b kept kept' wanted reads = subst (λ bytes. Wants bytes wanted) (sym reads.holds.1.0) reads.holds.0

part_begins : (a b : Input) (kept kept' : Feeding) (wanted : ℕ) → ReadsOn kept a b (Partial wanted) kept' → kept'.begins ≡ kept.begins
part_begins a b kept kept' wanted reads = reads.holds.1.1

reads_first : (a b : Input) (kept kept' : Feeding) (wanted : ℕ) → kept.unfinished ≡ [] → ReadsOn kept a b (Partial wanted) kept'
    → Reads a b (λ bytes. kept'.unfinished ≡ bytes)
reads_first a b kept kept' wanted none reads =
    record { bytes = reads.bytes; consumed = reads.consumed; holds = reads.holds.1.0 ∙ ap (λ l. l ++ reads.bytes) none }

-- a part of a request is some bytes
wants_begun : (bytes : List ℕ) (n : ℕ) → Wants bytes n → bytes ≢ []
wants_begun bytes n wants none =
    let some : 0 < n = wants.some in
    let size : length (replicate {A = ℕ} n 0) ≡ n = length-replicate n 0 in
    let frame = wants.enough (replicate n 0) (zero_bytes n) size in
    let first : get_or (replicate n 0) 0 0 ≡ 0x4d =
    ap (λ l. get_or (l ++ replicate n 0) 0 0) (sym none) ∙ ap (λ l. get_or l 0 0) frame.spelled in
    let zero = get_or-replicate {A = ℕ} n 0 0 0 some in
    omega (arith, first, zero)

-- what was read of a request's body is behind some bytes that were read before
stopped : (a b c : Input) (so_far : List ℕ) (count : ℕ) → so_far ≢ [] → Reads a b (λ bytes. so_far ≡ bytes)
    → Reads b c (Counted count (λ more. IsUnfinished Requests (so_far ++ more)))
    → Reads a c (Counted (length so_far + count) (λ bytes. (bytes ≢ []) × IsUnfinished Requests bytes))
stopped a b c so_far count begun first second =
    counted_more a b c [] so_far (length so_far) count (λ bytes. (bytes ≢ []) × IsUnfinished Requests bytes) (omega arith) first
    (record {
      bytes = second.bytes;
      consumed = second.consumed;
      holds = (
        second.holds.0,
        (
          λ none.
              let empty = ap length none in
              begun (nil_from_length so_far (omega (arith, empty, length-append so_far second.bytes))),
          second.holds.1,
        ),
      );
    })

-- no request was read where its body stops
pub body_none : (cause : Unread) (a b c : Input) (kept kept' : Feeding) (wanted : ℕ) → kept.unfinished ≡ [] → length kept'.unfinished ≡ head_size
    → a.ends ≤ b.ends → ReadsOn kept a b (Partial wanted) kept' → Stops cause kept'.unfinished b c → ReadsNone (behind head_size cause) a c
body_none Ended a b c kept kept' wanted none head stays first stops = absurd stops
body_none (Malformed count) a b c kept kept' wanted none head stays first stops =
    let begun = wants_begun kept'.unfinished wanted (part_wants a b kept kept' wanted first) in
    let all = stopped a b c kept'.unfinished count begun (reads_first a b kept kept' wanted none first) stops.0 in
    record {
      bytes = all.bytes;
      consumed = all.consumed;
      holds = (
        all.holds.0 ∙ ap (λ n. n + count) head,
        cut (end_since a b c stays stops.1) all.holds.1.0 (unfinished_less all.bytes all.holds.1.1),
      );
    }
body_none (ReadFault count) a b c kept kept' wanted none head stays first stops =
    let begun = wants_begun kept'.unfinished wanted (part_wants a b kept kept' wanted first) in
    let all = stopped a b c kept'.unfinished count begun (reads_first a b kept kept' wanted none first) stops in
    record {
      bytes = all.bytes;
      consumed = all.consumed;
      holds = (all.holds.0 ∙ ap (λ n. n + count) head, unfinished_less all.bytes all.holds.1.1);
    }
body_none (NoMemory count) a b c kept kept' wanted none head stays first stops =
    counted_more a b c [] kept'.unfinished head_size count (IsFramePrefix Requests) (omega (arith, head)) (reads_first a b kept kept' wanted none first) stops

-- the head of a request is a front of it
pub head_unread : (a b : Input) (kept kept' : Feeding) (wanted : ℕ) → kept.unfinished ≡ [] → length kept'.unfinished ≡ head_size
    → ReadsOn kept a b (Partial wanted) kept' → ReadsNone (NoMemory head_size) a b
head_unread a b kept kept' wanted none head first =
    let read = reads_first a b kept kept' wanted none first in
    let wants = part_wants a b kept kept' wanted first in
    let prefix = part_prefix kept'.unfinished [] wanted wants (λ i. lit< tt) (omega arith) in
    record {
      bytes = kept'.unfinished;
      consumed = subst (Consumes a.left b.left) (sym read.holds) read.consumed;
      holds = (head, subst (IsFramePrefix Requests) (append-nil kept'.unfinished) prefix);
    }

-- where a feeder kept nothing before, all of a request that it kept part of was read
request_whole : (a b : Input) (kept kept' : Feeding) (request : Message) → kept.unfinished ≡ [] → ReadsOn kept a b (Whole request) kept'
    → Consumes a.left b.left (frame_of request)
request_whole a b kept kept' request none reads =
    let same : reads.bytes ≡ frame_of request = ap (λ l. l ++ reads.bytes) (sym none) ∙ reads.holds.0.1 in
    subst (Consumes a.left b.left) same reads.consumed

pub body_read : (a b c : Input) (kept kept' kept'' : Feeding) (wanted : ℕ) (request : Message) → kept.unfinished ≡ []
    → ReadsOn kept a b (Partial wanted) kept' → ReadsOn kept' b c (Whole request) kept'' → Consumes a.left c.left (frame_of request)
body_read a b c kept kept' kept'' wanted request none first second =
    request_whole a c kept kept'' request none
    (reads_on_more a b c kept kept' kept'' (Whole request) (part_begins a b kept kept' wanted first) (reads_part a b kept kept' wanted first) second)

-- no request was read where its head makes none
pub head_none : (cause : Unread) (a b : Input) (head : List ℕ) → length head ≡ head_size → Consumes a.left b.left head
    → HeadRefused cause head → ReadsNone cause a b
head_none Ended a b head seven read refused = absurd refused
head_none (Malformed count) a b head seven read refused =
    record { bytes = head; consumed = read; holds = (seven ∙ sym refused.0, broken seven refused.1) }
head_none (ReadFault count) a b head seven read refused = absurd refused
head_none (NoMemory count) a b head seven read refused =
    record { bytes = head; consumed = read; holds = (seven ∙ sym refused.0, refused.1) }
