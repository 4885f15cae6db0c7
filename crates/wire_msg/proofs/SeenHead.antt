-- What the first bytes of a frame show.
use Rattle.std.proofs.Common.{◌≡◌, ℕ, List, [], ◌∷◌, ◌++◌, refl, ap, ◌∙◌, arith}
use Rattle.munge_types.specs.BigEndian.{be32}
use Rattle.wire_msg.proofs.Frames.{kind_once}
use Rattle.wire_msg.specs.FrameHead.{kind_number, message_head, side_of_kind}
use Rattle.wire_msg.specs.Head.{IsHeadPart, Sees, SeesSize}
use Rattle.wire_msg.specs.declared.head.Seen.{Seen}
use Rattle.wire_msg.specs.declared.head.Seen.TheVariants.{Whole, Part, Broken}
use Rattle.wire_msg.specs.declared.kind.Kind.{Kind}
use Rattle.wire_msg.specs.declared.kind.Kind.TheVariants as kind
use Rattle.wire_msg.specs.declared.kind.Side.{Side}
use Rattle.wire_msg.specs.declared.kind.Side.TheVariants.{Requests, Replies}

-- each side has a head
none_yet : (side : Side) → IsHeadPart side []
none_yet Requests =
    record { kind = kind.Stop; size = 0; rest = message_head kind.Stop 0; is_head = record { sent_by = refl; allowed = refl }; completed = refl }
none_yet Replies =
    record { kind = kind.Bye; size = 1; rest = message_head kind.Bye 1; is_head = record { sent_by = refl; allowed = refl }; completed = refl }

some_head : (side : Side) → IsHeadPart side (0x4d ∷ [])
some_head Requests =
    record { kind = kind.Stop; size = 0; rest = 1 ∷ 5 ∷ be32 0; is_head = record { sent_by = refl; allowed = refl }; completed = refl }
some_head Replies =
    record { kind = kind.Bye; size = 1; rest = 1 ∷ 6 ∷ be32 1; is_head = record { sent_by = refl; allowed = refl }; completed = refl }

some_kind : (side : Side) → IsHeadPart side (0x4d ∷ 1 ∷ [])
some_kind Requests =
    record { kind = kind.Stop; size = 0; rest = 5 ∷ be32 0; is_head = record { sent_by = refl; allowed = refl }; completed = refl }
some_kind Replies =
    record { kind = kind.Bye; size = 1; rest = 6 ∷ be32 1; is_head = record { sent_by = refl; allowed = refl }; completed = refl }

pub sees_none : (side : Side) (bytes : List ℕ) → bytes ≡ [] → Sees side bytes Part
sees_none side bytes same = rw same (omega arith, none_yet side)

pub sees_magic : (side : Side) (bytes : List ℕ) → bytes ≡ 0x4d ∷ [] → Sees side bytes Part
sees_magic side bytes same = rw same (omega arith, some_head side)

pub sees_version : (side : Side) (bytes : List ℕ) → bytes ≡ 0x4d ∷ 1 ∷ [] → Sees side bytes Part
sees_version side bytes same = rw same (omega arith, some_kind side)

-- what is seen of the length is seen of the head
pub sees_size : (side : Side) (kind : Kind) (bytes size : List ℕ) (seen : Seen) → side_of_kind kind ≡ side
    → bytes ≡ 0x4d ∷ 1 ∷ kind_number kind ∷ size → SeesSize kind size seen → Sees side bytes seen
sees_size side kind bytes size (Whole head) sent_by same sees =
    let kind_is = sees.0 in (
      record { sent_by = ap side_of_kind kind_is ∙ sent_by; allowed = rw kind_is sees.1 },
      rw (kind_is, same, sees.2) refl,
    )
sees_size side kind bytes size Part sent_by same sees =
    let found = sees.1 in
    let fewer = sees.0 in (
      rw same (omega arith),
      record {
        kind = kind;
        size = found.size;
        rest = found.rest;
        is_head = record { sent_by = sent_by; allowed = found.allowed };
        completed = rw same (ap (λ (l : List ℕ). 0x4d ∷ 1 ∷ kind_number kind ∷ l) found.completed);
      },
    )
sees_size side kind bytes size Broken sent_by same sees =
    λ other n more rest is_head equal.
    let heads : 0x4d ∷ 1 ∷ kind_number kind ∷ (size ++ more) ≡ message_head other n ++ rest = rw same at equal in
    let numbers : kind_number kind ≡ kind_number other = cc heads in
    let behind : size ++ more ≡ be32 n ++ rest = cc heads in
    let kinds = kind_once kind other numbers in
    sees n more rest (rw kinds is_head.allowed) behind
