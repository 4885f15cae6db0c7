-- What a feeder waits for.
use Rattle.std.proofs.Common.{◌≡◌, ℕ, ◌+◌, ◌-◌, ◌≤◌, ◌<◌, List, ◌++◌, length, ap, arith, inl, inr}
use Rattle.std.specs.declared.option.Option.{Option}
use Rattle.std.specs.declared.option.Option.TheVariants.{None, Some}
use Rattle.std.proofs.lemmas.Bool.{cases_lt}
use Rattle.std.proofs.lemmas.List.{append_assoc, length-append}
use Rattle.wire_msg.proofs.ByteLists.{append_bytes}
use Rattle.wire_msg.proofs.Frames.{frame_laid, frame_size, not_unfinished, unfinished_laid}
use Rattle.wire_msg.specs.Begun.{IsWaiting, Partial, came}
use Rattle.munge_types.specs.Bytes.{IsBytes}
use Rattle.wire_msg.specs.Frame.{IsFrame, IsUnfinished}
use Rattle.wire_msg.specs.declared.kind.Side.{Side}

-- a head that is not whole
pub head_least : (side : Side) (front : List ℕ) (begun : Option Partial) (count : ℕ) → begun ≡ None → count ≡ length front
    → (piece : List ℕ) → IsFrame side (came front begun ++ piece) → 7 - count ≤ length piece
head_least side front begun count none same piece frame =
    let whole = frame_size side (front ++ piece) (rw none at frame) in
    omega (arith, same, whole, length-append front piece)

pub head_fewer : (side : Side) (front : List ℕ) (begun : Option Partial) → begun ≡ None → IsWaiting side front begun
    → IsUnfinished side (came front begun) → length front < 7
head_fewer side front begun none waiting unfinished =
    let waits = rw none at waiting in
    elim (cases_lt (length front) 7) [
      | inl fewer ↦ fewer
      | inr seven ↦
          let within = waits.0 in
          absurd (not_unfinished side front (waits.1 (omega arith)) (rw none at unfinished))
    ]

-- a body that is not whole
pub body_enough : (side : Side) (front : List ℕ) (begun : Option Partial) (partial : Partial) (missing : ℕ) → begun ≡ Some partial
    → IsWaiting side front begun → length partial.body + missing ≡ partial.size → IsBytes partial.body
    → (piece : List ℕ) → IsBytes piece → length piece ≡ missing → IsFrame side (came front begun ++ piece)
body_enough side front begun partial missing is waiting counted bytes piece piece_bytes size =
    let waits = rw is at waiting in
    let whole : length (partial.body ++ piece) ≡ partial.size = simp length-append (omega arith) in
    rw (is, append_assoc)
    (frame_laid side partial.kind partial.size (partial.body ++ piece) waits.1 whole (append_bytes partial.body piece bytes piece_bytes))

pub head_not_whole : (side : Side) (front : List ℕ) (begun : Option Partial) → begun ≡ None → IsWaiting side front begun
    → IsUnfinished side (came front begun) → 7 ≤ length (came front begun) → ⊥
head_not_whole side front begun none waiting unfinished whole =
    let fewer = head_fewer side front begun none waiting unfinished in
    let all : 7 ≤ length front = rw none at whole in
    omega arith

-- the frame was taken out, and no byte of another head has come
pub taken_out : (side : Side) (front : List ℕ) (begun begun' : Option Partial) (partial : Partial) → begun ≡ Some partial
    → IsWaiting side front begun → begun' ≡ None → IsWaiting side front begun'
taken_out side front begun begun' partial some waiting none =
    let waits = rw some at waiting in
    let size : length front ≡ 0 = ap length waits.0 in
    rw none (omega (arith, size), λ seven. absurd (omega (arith, size, seven)))

pub body_fewer : (side : Side) (front : List ℕ) (begun : Option Partial) (partial : Partial) (missing : ℕ) → begun ≡ Some partial
    → IsWaiting side front begun → length partial.body + missing ≡ partial.size → IsBytes partial.body
    → (piece : List ℕ) → IsBytes piece → length piece < missing → IsUnfinished side (came front begun ++ piece)
body_fewer side front begun partial missing is waiting counted bytes piece piece_bytes size =
    let waits = rw is at waiting in
    let fewer : length (partial.body ++ piece) < partial.size = simp length-append (omega arith) in
    rw (is, append_assoc)
    (unfinished_laid side partial.kind partial.size (partial.body ++ piece) waits.1 fewer (append_bytes partial.body piece bytes piece_bytes))
