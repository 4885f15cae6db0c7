-- What is known of a reply of which a part was read.
use Rattle.std.proofs.Common.{◌≡◌, ◌∙◌, ℕ, ◌+◌, ◌-◌, ◌<◌, ◌≤◌, List, [], ◌++◌, Option, length, take, refl, sym, ap, subst, arith}
use Rattle.std.proofs.lemmas.List.{append-nil, length-append, length-take, nil_from_length}
use Rattle.std.proofs.Math.Seq.{take-length}
use Rattle.std.proofs.KnownBytes.{Consumes-kept, Consumes-nil, Consumes-trans}
use Rattle.std.specs.Io.KnownBytes.{Consumes, IsAtEnd, Keeps}
use Rattle.byte_io.specs.Counts.{Rose}
use Rattle.wire_msg.specs.Feeding.{Answers, Feeding}
use Rattle.wire_msg.specs.Fits.{IsMessage}
use Rattle.wire_msg.specs.Frame.{IsFrame, IsUnfinished}
use Rattle.wire_msg.specs.FrameHead.{body_limit, head_size}
use Rattle.wire_msg.specs.Spelling.{body_of, frame_of}
use Rattle.wire_msg.specs.declared.fed.Fed.TheVariants as fed
use Rattle.wire_msg.specs.declared.kind.Side.TheVariants.{Replies}
use Rattle.wire_msg.specs.declared.message.Message.{Message}
use Rattle.munge_tools.specs.ReplyRead.{Came, Input, PieceRefused, Reads, Stopped, Took, broken, ended, failed, no_memory}
use Rattle.munge_tools.specs.declared.exchange.Unheard.{Unheard}
use Rattle.munge_tools.specs.declared.exchange.Unheard.TheVariants.{Unreached, BadReply, NoMemory}
use Rattle.munge_tools.specs.declared.reply.Step.{Step}
use Rattle.munge_tools.specs.declared.reply.Step.TheVariants.{Whole, Part}

frame_size : (message : Message) → length (frame_of message) ≡ head_size + length (body_of message)
frame_size message = omega arith

take_all : (n : ℕ) (bytes : List ℕ) → n ≡ length bytes → take n bytes ≡ bytes
take_all n bytes all = ap (λ m. take m bytes) all ∙ take-length bytes

-- a part of a reply has fewer bytes than the largest
pub unfinished_size : (bytes : List ℕ) → IsUnfinished Replies bytes → length bytes < head_size + body_limit
unfinished_size bytes unfinished =
    let some : length unfinished.rest ≡ 0 → ⊥ = λ none. unfinished.wants_some (nil_from_length unfinished.rest none) in
    let spelled = ap length unfinished.completed.spelled in
    let within = unfinished.completed.is_message.within in
    omega (arith, some, spelled, within, length-append bytes unfinished.rest, frame_size unfinished.completed.message)

-- a piece that is no longer than what is wanted makes a reply only as a whole
pub piece_came : (kept kept' : Feeding) (piece : List ℕ) (message : Message) (used : ℕ) → kept.side ≡ Replies
    → ((more : List ℕ) → IsFrame Replies (kept.unfinished ++ more) → length piece ≤ length more)
    → Answers kept piece (fed.Message message used) → Came kept kept' piece (Whole message)
piece_came kept kept' piece message used side within answers =
    let is_message = subst (λ side. IsMessage side message) side answers.0 in
    let needs : length piece ≤ length (take used piece) =
    within (take used piece) (record { message = message; is_message = is_message; spelled = answers.2 }) in
    let inside = answers.1 in
    let all : used ≡ length piece = omega (arith, simp length-take at needs, inside) in
    (is_message, ap (λ l. kept.unfinished ++ l) (sym (take_all used piece all)) ∙ answers.2)

-- what a piece made of a reply was read
pub took : (kept kept' : Feeding) (piece : List ℕ) (before after : Input) (step : Step) → Consumes before.left after.left piece
    → after.ends ≡ before.ends → 1 ≤ length piece → Came kept kept' piece step → Took kept kept' before after step
took kept kept' piece before after (Whole message) read stays some came = record { bytes = piece; consumed = read; no_end = stays; holds = (came.0, came.1) }
took kept kept' piece before after Part read stays some came =
    record { bytes = piece; consumed = read; no_end = stays; holds = (came.0, some, came.1) }

pub refused : (kept : Feeding) (piece : List ℕ) (before after : Input) (why : Unheard) → Consumes before.left after.left piece
    → after.ends ≡ before.ends → PieceRefused kept piece why → Stopped kept.unfinished before after why
refused kept piece before after Unreached read stays why = absurd why
refused kept piece before after BadReply read stays why = broken (record { bytes = piece; consumed = read; no_end = stays; holds = why }) refl
refused kept piece before after NoMemory read stays why = no_memory (record { bytes = piece; consumed = read; no_end = stays; holds = why }) refl

kept_consumes : (old new : Option (List ℕ)) → Keeps old new → Consumes old new []
kept_consumes old new kept = Consumes-kept old old new [] (Consumes-nil old) kept

-- a read failed
pub read_failed : (so_far : List ℕ) (before after : Input) → Keeps before.left after.left → after.ends ≡ before.ends
    → IsUnfinished Replies so_far → Stopped so_far before after Unreached
read_failed so_far before after kept stays unfinished =
    failed
    (record {
      bytes = [];
      consumed = kept_consumes before.left after.left kept;
      no_end = stays;
      holds = subst (IsUnfinished Replies) (sym (append-nil so_far)) unfinished;
    })
    refl

-- the end came
pub read_ended : (so_far into : List ℕ) (n : ℕ) (before after : Input) → n ≡ 0 → 0 < length into
    → Consumes before.left after.left (take n into) × (n ≡ 0 → 0 < length into → IsAtEnd after.left)
    → (n ≡ 0 → 0 < length into → Rose before.ends after.ends) → IsUnfinished Replies so_far → Stopped so_far before after BadReply
read_ended so_far into n before after zero room read found unfinished =
    ended [] (subst (λ m. Consumes before.left after.left (take m into)) zero read.0) (subst (IsUnfinished Replies) (sym (append-nil so_far)) unfinished)
    (record { found = found zero room; nothing_left = read.1 zero room }) refl

-- what was read of it behind a part that was read before
reads_more : (a b c : Input) (so_far : List ℕ) (P : List ℕ → Type 0) → Consumes a.left b.left so_far → b.ends ≡ a.ends
    → Reads b c (λ piece. P (so_far ++ piece)) → Reads a c (λ bytes. P bytes)
reads_more a b c so_far P first stays reads =
    record {
      bytes = so_far ++ reads.bytes;
      consumed = Consumes-trans a.left b.left c.left so_far reads.bytes first reads.consumed;
      no_end = reads.no_end ∙ stays;
      holds = reads.holds;
    }

pub stopped_more : (a b c : Input) (so_far : List ℕ) (why : Unheard) → Consumes a.left b.left so_far → b.ends ≡ a.ends
    → Stopped so_far b c why → Stopped [] a c why
stopped_more a b c so_far why first stays (broken reads is) = broken (reads_more a b c so_far _ first stays reads) is
stopped_more a b c so_far why first stays (ended piece read unfinished at_end is) =
    ended (so_far ++ piece) (Consumes-trans a.left b.left c.left so_far piece first read) unfinished
    (record { found = subst (λ n. Rose n c.ends) stays at_end.found; nothing_left = at_end.nothing_left }) is
stopped_more a b c so_far why first stays (failed reads is) = failed (reads_more a b c so_far _ first stays reads) is
stopped_more a b c so_far why first stays (no_memory reads is) = no_memory (reads_more a b c so_far _ first stays reads) is

-- the whole reply was read
pub whole_read : (a b c : Input) (kept kept' : Feeding) (message : Message) → Consumes a.left b.left kept.unfinished
    → Took kept kept' b c (Whole message) → Consumes a.left c.left (frame_of message)
whole_read a b c kept kept' message first took =
    subst (Consumes a.left c.left) took.holds.1
    (Consumes-trans a.left b.left c.left kept.unfinished took.bytes first took.consumed)

-- one more part was
pub part_read : (a b c : Input) (kept kept' : Feeding) → Consumes a.left b.left kept.unfinished
    → Took kept kept' b c Part → Consumes a.left c.left kept'.unfinished
part_read a b c kept kept' first took =
    subst (Consumes a.left c.left) (sym took.holds.0)
    (Consumes-trans a.left b.left c.left kept.unfinished took.bytes first took.consumed)

pub part_unfinished : (b c : Input) (kept kept' : Feeding) → Took kept kept' b c Part → IsUnfinished Replies kept'.unfinished
part_unfinished b c kept kept' took = subst (IsUnfinished Replies) (sym took.holds.0) took.holds.2

pub part_nearer : (b c : Input) (kept kept' : Feeding) → Took kept kept' b c Part
    → (head_size + body_limit) - length kept'.unfinished < (head_size + body_limit) - length kept.unfinished
part_nearer b c kept kept' took =
    let longer = ap length took.holds.0 in
    let some = took.holds.1 in
    let within = unfinished_size kept'.unfinished (part_unfinished b c kept kept' took) in
    omega (arith, longer, some, within, length-append kept.unfinished took.bytes)
