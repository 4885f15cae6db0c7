-- A frame whose head is whole, as far as its body came.
use Rattle.std.specs.Prelude.{◌≡◌, ℕ, ◌+◌, ◌<◌, ◌≤◌, ◌⊎◌, List, [], ◌++◌, length, take, nat_eq, if◌then◌else◌}
use Rattle.std.specs.declared.option.Option.{Option}
use Rattle.std.specs.declared.option.Option.TheVariants.{None, Some}
use Rattle.munge_types.specs.Bytes.{IsBytes}
use Rattle.wire_msg.specs.FrameHead.{message_head, head_size, asked_size, reply_size, showing_size}
use Rattle.wire_msg.specs.Head.{IsHead, BeginsNoHead}
use Rattle.wire_msg.specs.declared.kind.Kind.{Kind}
use Rattle.wire_msg.specs.declared.kind.Kind.TheVariants as kind
use Rattle.wire_msg.specs.declared.kind.Side.{Side}

-- what its head says, and the body so far
pub record Partial : Type 0 where
  pub kind : Kind
  pub size : ℕ
  pub body : List ℕ

-- the bytes of a body of this kind and size before its text or payload
abbrev pub fixed_size : Kind → (size : ℕ) → ℕ
fixed_size kind.EncodeRequest size = asked_size
fixed_size kind.EncodeReply size = 1
fixed_size kind.DecodeRequest size = 0
fixed_size kind.DecodeReply size = if nat_eq size reply_size then reply_size else showing_size
fixed_size kind.Stop size = 0
fixed_size kind.Bye size = 1

-- a decode reply has so many bytes of fixed fields, and so many of payload
abbrev pub IsReplySize : (fields payload : ℕ) → Type 0
IsReplySize fields payload = ((fields ≡ reply_size) × (payload ≡ 0)) ⊎ (fields ≡ showing_size)

-- How a body of this size is kept whose fixed fields have so many bytes: those that came, the bytes
-- behind them, how many more of these fit, and how many of all are missing.
pub record IsKept (size fixed : ℕ) (fields tail : List ℕ) (spare missing : ℕ) : Type 0 where
  pub short : fixed ≤ showing_size
  pub fields_within : length fields ≤ fixed
  pub tail_behind : length fields < fixed → tail ≡ []
  pub room : (fixed + length tail) + spare ≡ size
  pub counted : (length fields + length tail) + missing ≡ size
  pub field_bytes : IsBytes fields
  pub tail_bytes : IsBytes tail

-- the bytes of a frame so far: those of its head, or the head and those of its body
abbrev pub came : (front : List ℕ) → (begun : Option Partial) → List ℕ
came front None = front
came front (Some begun) = message_head begun.kind begun.size ++ begun.body

-- the frame began with these bytes and the first ones of a piece
abbrev pub IsBegunBy : (unfinished piece : List ℕ) → (taken : ℕ) → Partial → Type 0
IsBegunBy unfinished piece taken begun = came [] (Some begun) ≡ unfinished ++ take taken piece

-- They are fewer than a head, or begin no frame; or there is more of the body to come, and of the
-- head no bytes are kept.
abbrev pub IsWaiting : Side → (front : List ℕ) → (begun : Option Partial) → Type 0
IsWaiting side front None =
    (length front ≤ head_size) × (length front ≡ head_size → BeginsNoHead side front)
IsWaiting side front (Some begun) =
    (front ≡ []) × IsHead side begun.kind begun.size × (length begun.body < begun.size)
