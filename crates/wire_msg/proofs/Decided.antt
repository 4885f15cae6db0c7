-- Of any bytes it can be told whether they begin with a frame, are unfinished, or are no frame's.
use Rattle.std.proofs.Common.{◌≡◌, ◌≢◌, ℕ, ◌≤◌, max, List, [], ◌∷◌, length, take, drop, refl, sym, ap, arith, inl, inr, ◌⊎◌}
use Rattle.std.specs.Int.{w32, from_be_bytes}
use Rattle.std.proofs.lemmas.Bool.{cases_eq, cases_lt}
use Rattle.std.proofs.lemmas.List.{length-take}
use Rattle.munge_types.specs.BigEndian.{be32}
use Rattle.wire_msg.proofs.Answered.{front_broken, front_of, front_part, front_whole}
use Rattle.wire_msg.proofs.ByteLists.{drop_bytes, take_bytes}
use Rattle.wire_msg.proofs.SeenHead.{sees_none, sees_magic, sees_version, sees_size}
use Rattle.wire_msg.proofs.Sizes.{between, begins_so, exactly}
use Rattle.wire_msg.proofs.Spelled.{allowed_within}
use Rattle.munge_types.specs.Bytes.{IsBytes}
use Rattle.wire_msg.specs.Frame.{BeginsFrame, IsNoFrame, IsUnfinished}
use Rattle.wire_msg.specs.FrameHead.{AllowsSize, body_limit, kind_number, side_of_kind}
use Rattle.wire_msg.specs.Head.{Sees, SeesSize, filled}
use Rattle.wire_msg.specs.declared.head.Seen.{Seen}
use Rattle.wire_msg.specs.declared.head.Seen.TheVariants.{Whole, Part, Broken}
use Rattle.wire_msg.specs.declared.kind.Kind.{Kind}
use Rattle.wire_msg.specs.declared.kind.Kind.TheVariants as kind
use Rattle.wire_msg.specs.declared.kind.Side.{Side}
use Rattle.wire_msg.specs.declared.kind.Side.TheVariants.{Requests, Replies}

-- the least allowed length that is not below this one
record Least (kind : Kind) (from : ℕ) : Type 0 where
  size : ℕ
  allowed : AllowsSize kind size
  not_below : from ≤ size
  least : (other : ℕ) → from ≤ other → AllowsSize kind other → size ≤ other

abbrev AllowsNone : Kind → ℕ → Type 0
AllowsNone kind from = (other : ℕ) → from ≤ other → AllowsSize kind other → ⊥

least_allowed : (kind : Kind) (from : ℕ) → Least kind from ⊎ AllowsNone kind from
least_allowed kind.EncodeRequest from =
    elim (cases_lt body_limit (max from 14)) [
      | inl above ↦ inr (λ other from_below allowed. let low = allowed.0 in let high = allowed.1 in omega arith)
      | inr within ↦
          inl
          (record {
            size = max from 14;
            allowed = (omega arith, within);
            not_below = omega arith;
            least = λ other from_below allowed. let low = allowed.0 in omega arith;
          })
    ]
least_allowed kind.EncodeReply from =
    elim (cases_lt body_limit (max from 1)) [
      | inl above ↦ inr (λ other from_below allowed. let low = allowed.0 in let high = allowed.1 in omega arith)
      | inr within ↦
          inl
          (record {
            size = max from 1;
            allowed = (omega arith, within);
            not_below = omega arith;
            least = λ other from_below allowed. let low = allowed.0 in omega arith;
          })
    ]
least_allowed kind.DecodeRequest from =
    elim (cases_lt body_limit from) [
      | inl above ↦ inr (λ other from_below allowed. omega arith)
      | inr within ↦
          inl (record { size = from; allowed = within; not_below = omega arith; least = λ other from_below allowed. from_below })
    ]
least_allowed kind.DecodeReply from =
    elim (cases_lt 10 from) [
      | inl past ↦
          elim (cases_lt body_limit (max from 40)) [
            | inl above ↦
                inr
                (λ other from_below allowed.
                elim allowed [ inl ten ↦ omega arith | inr sizes ↦ let low = sizes.0 in let high = sizes.1 in omega arith ])
            | inr within ↦
                inl
                (record {
                  size = max from 40;
                  allowed = inr (omega arith, within);
                  not_below = omega arith;
                  least = λ other from_below allowed.
                      elim allowed [ inl ten ↦ absurd (omega arith) | inr sizes ↦ let low = sizes.0 in omega arith ];
                })
          ]
      | inr below ↦
          inl
          (record {
            size = 10;
            allowed = inl refl;
            not_below = below;
            least = λ other from_below allowed.
                elim allowed [ inl ten ↦ omega arith | inr sizes ↦ let low = sizes.0 in omega arith ];
          })
    ]
least_allowed kind.Stop from =
    elim (cases_lt 0 from) [
      | inl past ↦ inr (λ other from_below allowed. omega arith)
      | inr none ↦ inl (record { size = 0; allowed = refl; not_below = none; least = λ other from_below allowed. omega arith })
    ]
least_allowed kind.Bye from =
    elim (cases_lt 1 from) [
      | inl past ↦ inr (λ other from_below allowed. omega arith)
      | inr within ↦ inl (record { size = 1; allowed = refl; not_below = within; least = λ other from_below allowed. omega arith })
    ]

record DecidedSize (kind : Kind) (bytes : List ℕ) : Type 0 where
  seen : Seen
  sees : SeesSize kind bytes seen

decide_size : (kind : Kind) (bytes : List ℕ) → IsBytes bytes → length bytes ≤ 4 → DecidedSize kind bytes
decide_size kind bytes is_bytes short =
    let low = from_be_bytes w32 (filled 0 bytes) in
    let high = from_be_bytes w32 (filled 255 bytes) in
    elim (least_allowed kind low) [
      | inr none ↦
          record {
            seen = Broken;
            sees = λ size more rest allowed same.
                let limit = allowed_within kind size allowed in
                let within = between bytes more rest size short (omega arith) same in
                none size within.not_below allowed;
          }
      | inl first ↦
          elim (cases_lt high first.size) [
            | inl above ↦
                record {
                  seen = Broken;
                  sees = λ size more rest allowed same.
                      let limit = allowed_within kind size allowed in
                      let within = between bytes more rest size short (omega arith) same in
                      let lowest = first.least size within.not_below allowed in
                      let highest = within.not_above in
                      omega arith;
                }
            | inr within ↦
                elim (cases_lt (length bytes) 4) [
                  | inl fewer ↦
                      record {
                        seen = Part;
                        sees = (
                          fewer,
                          record {
                            size = first.size;
                            rest = drop (length bytes) (be32 first.size);
                            allowed = first.allowed;
                            completed = begins_so bytes first.size is_bytes short first.not_below within;
                          },
                        );
                      }
                  | inr four ↦
                      record {
                        seen = Whole (record { kind = kind; size = first.size });
                        sees = (refl, first.allowed, exactly bytes first.size is_bytes (omega arith) first.not_below within);
                      }
                ]
          ]
    ]

record KindOf (side : Side) (number : ℕ) : Type 0 where
  kind : Kind
  number_is : number ≡ kind_number kind
  sent_by : side_of_kind kind ≡ side

abbrev NoKind : Side → ℕ → Type 0
NoKind side number = (kind : Kind) → side_of_kind kind ≡ side → number ≡ kind_number kind → ⊥

no_request : (number : ℕ) → number ≢ 1 → number ≢ 3 → number ≢ 5 → NoKind Requests number
no_request number not_1 not_3 not_5 kind.EncodeRequest sent_by same = not_1 same
no_request number not_1 not_3 not_5 kind.EncodeReply sent_by same = cc sent_by
no_request number not_1 not_3 not_5 kind.DecodeRequest sent_by same = not_3 same
no_request number not_1 not_3 not_5 kind.DecodeReply sent_by same = cc sent_by
no_request number not_1 not_3 not_5 kind.Stop sent_by same = not_5 same
no_request number not_1 not_3 not_5 kind.Bye sent_by same = cc sent_by

no_reply : (number : ℕ) → number ≢ 2 → number ≢ 4 → number ≢ 6 → NoKind Replies number
no_reply number not_2 not_4 not_6 kind.EncodeRequest sent_by same = cc sent_by
no_reply number not_2 not_4 not_6 kind.EncodeReply sent_by same = not_2 same
no_reply number not_2 not_4 not_6 kind.DecodeRequest sent_by same = cc sent_by
no_reply number not_2 not_4 not_6 kind.DecodeReply sent_by same = not_4 same
no_reply number not_2 not_4 not_6 kind.Stop sent_by same = cc sent_by
no_reply number not_2 not_4 not_6 kind.Bye sent_by same = not_6 same

decide_kind : (side : Side) (number : ℕ) → KindOf side number ⊎ NoKind side number
decide_kind Requests number =
    elim (cases_eq number 1) [
      | inl same ↦ inl (record { kind = kind.EncodeRequest; number_is = same; sent_by = refl })
      | inr not_1 ↦
          elim (cases_eq number 3) [
            | inl same ↦ inl (record { kind = kind.DecodeRequest; number_is = same; sent_by = refl })
            | inr not_3 ↦
                elim (cases_eq number 5) [
                  | inl same ↦ inl (record { kind = kind.Stop; number_is = same; sent_by = refl })
                  | inr not_5 ↦ inr (no_request number not_1 not_3 not_5)
                ]
          ]
    ]
decide_kind Replies number =
    elim (cases_eq number 2) [
      | inl same ↦ inl (record { kind = kind.EncodeReply; number_is = same; sent_by = refl })
      | inr not_2 ↦
          elim (cases_eq number 4) [
            | inl same ↦ inl (record { kind = kind.DecodeReply; number_is = same; sent_by = refl })
            | inr not_4 ↦
                elim (cases_eq number 6) [
                  | inl same ↦ inl (record { kind = kind.Bye; number_is = same; sent_by = refl })
                  | inr not_6 ↦ inr (no_reply number not_2 not_4 not_6)
                ]
          ]
    ]

record DecidedHead (side : Side) (bytes : List ℕ) : Type 0 where
  seen : Seen
  sees : Sees side bytes seen

decide_after : (side : Side) (size : List ℕ) (number : ℕ) → IsBytes size → length size ≤ 4 → DecidedHead side (0x4d ∷ 1 ∷ number ∷ size)
decide_after side size number bytes short =
    elim (decide_kind side number) [
      | inl found ↦
          let decided = decide_size found.kind size bytes short in
          let same : 0x4d ∷ 1 ∷ number ∷ size ≡ 0x4d ∷ 1 ∷ kind_number found.kind ∷ size =
          ap (λ (n : ℕ). 0x4d ∷ 1 ∷ n ∷ size) found.number_is in
          record { seen = decided.seen; sees = sees_size side found.kind _ size decided.seen found.sent_by same decided.sees }
      | inr none ↦
          record {
            seen = Broken;
            sees = λ kind n more rest is_head same. none kind is_head.sent_by (cc same);
          }
    ]

decide_head : (side : Side) (bytes : List ℕ) → IsBytes bytes → length bytes ≤ 7 → DecidedHead side bytes
decide_head side [] is_bytes short = record { seen = Part; sees = sees_none side [] refl }
decide_head side (m ∷ []) is_bytes short =
    elim (cases_eq m 0x4d) [
      | inl same ↦ record { seen = Part; sees = sees_magic side (m ∷ []) (ap (λ (n : ℕ). n ∷ []) same) }
      | inr differs ↦ record { seen = Broken; sees = λ kind n more rest is_head same. differs (cc same) }
    ]
decide_head side (m ∷ v ∷ []) is_bytes short =
    elim (cases_eq m 0x4d) [
      | inl same ↦
          elim (cases_eq v 1) [
            | inl first ↦ record { seen = Part; sees = sees_version side (m ∷ v ∷ []) (cc (same, first)) }
            | inr differs ↦ record { seen = Broken; sees = λ kind n more rest is_head equal. differs (cc equal) }
          ]
      | inr differs ↦ record { seen = Broken; sees = λ kind n more rest is_head same. differs (cc same) }
    ]
decide_head side (m ∷ v ∷ number ∷ size) is_bytes short =
    elim (cases_eq m 0x4d) [
      | inl same ↦
          elim (cases_eq v 1) [
            | inl first ↦ rw (same, first) (decide_after side size number (λ i. drop_bytes 3 (m ∷ v ∷ number ∷ size) is_bytes i) (omega arith))
            | inr differs ↦ record { seen = Broken; sees = λ kind n more rest is_head equal. differs (cc equal) }
          ]
      | inr differs ↦ record { seen = Broken; sees = λ kind n more rest is_head same. differs (cc same) }
    ]

from_seen : (side : Side) (bytes : List ℕ) (seen : Seen) → IsBytes bytes → Sees side (front_of [] bytes) seen
    → BeginsFrame side bytes ⊎ (IsUnfinished side bytes ⊎ IsNoFrame side bytes)
from_seen side bytes (Whole head) is_bytes sees =
    elim (front_whole side head.kind head.size [] bytes is_bytes sees.0 (sym sees.1)) [
      | inl begun ↦ inl begun
      | inr unfinished ↦ inr (inl unfinished)
    ]
from_seen side bytes Part is_bytes sees = inr (inl (front_part side [] bytes (front_of [] bytes) (omega arith) refl sees.0 sees.1))
from_seen side bytes Broken is_bytes sees = inr (inr (front_broken side [] bytes (front_of [] bytes) refl sees))

pub decide_frame : (side : Side) (bytes : List ℕ) → IsBytes bytes → BeginsFrame side bytes ⊎ (IsUnfinished side bytes ⊎ IsNoFrame side bytes)
decide_frame side bytes is_bytes =
    let short : length (take 7 bytes) ≤ 7 = simp length-take (omega arith) in
    let decided = decide_head side (take 7 bytes) (take_bytes 7 bytes is_bytes) short in
    from_seen side bytes decided.seen is_bytes decided.sees
