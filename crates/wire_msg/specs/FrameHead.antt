-- The head of a frame: seven bytes, the same for all kinds of messages.
use Rattle.std.specs.Prelude.{◌≡◌, ◌≢◌, ℕ, ◌≤◌, ◌⊎◌, List, ◌∷◌}
use Rattle.munge_types.specs.BigEndian.{be32}
use Rattle.wire_msg.specs.declared.kind.Kind.{Kind}
use Rattle.wire_msg.specs.declared.kind.Kind.TheVariants as kind
use Rattle.wire_msg.specs.declared.kind.Side.{Side}
use Rattle.wire_msg.specs.declared.kind.Side.TheVariants.{Requests, Replies}

-- the first byte of every frame, `M`, and the second, the version
abbrev pub magic : ℕ
magic = 0x4d

abbrev pub version : ℕ
version = 1

-- the third byte of a frame
abbrev pub kind_number : Kind → ℕ
kind_number kind.EncodeRequest = 1
kind_number kind.EncodeReply = 2
kind_number kind.DecodeRequest = 3
kind_number kind.DecodeReply = 4
kind_number kind.Stop = 5
kind_number kind.Bye = 6

-- the head of a frame: magic, version, its kind, and the length of its body in four bytes
abbrev pub message_head : Kind → (size : ℕ) → List ℕ
message_head kind size = magic ∷ version ∷ kind_number kind ∷ be32 size

-- the bytes of a head
abbrev pub head_size : ℕ
head_size = 7

-- who sends messages of this kind
abbrev pub side_of_kind : Kind → Side
side_of_kind kind.EncodeRequest = Requests
side_of_kind kind.EncodeReply = Replies
side_of_kind kind.DecodeRequest = Requests
side_of_kind kind.DecodeReply = Replies
side_of_kind kind.Stop = Requests
side_of_kind kind.Bye = Replies

-- it is the third byte of no frame of this side
abbrev pub IsNoKind : Side → (number : ℕ) → Type 0
IsNoKind side number = (kind : Kind) → side_of_kind kind ≡ side → number ≢ kind_number kind

-- the most bytes of a body
abbrev pub body_limit : ℕ
body_limit = 2097152

-- the bytes of an encode request's body before the payload
abbrev pub asked_size : ℕ
asked_size = 14

-- the bytes of a decode reply's body before the content
abbrev pub reply_size : ℕ
reply_size = 10

-- the bytes of a content before the payload
abbrev pub content_size : ℕ
content_size = 30

-- the bytes of a decode reply's body before the payload
abbrev pub showing_size : ℕ
showing_size = 40

-- from the least that is named here up to the limit
abbrev pub AllowsFrom : (least size : ℕ) → Type 0
AllowsFrom least size = (least ≤ size) × (size ≤ body_limit)

-- the body of a message of this kind may have so many bytes
abbrev pub AllowsSize : Kind → ℕ → Type 0
AllowsSize kind.EncodeRequest size = AllowsFrom asked_size size
AllowsSize kind.EncodeReply size = AllowsFrom 1 size
AllowsSize kind.DecodeRequest size = size ≤ body_limit
AllowsSize kind.DecodeReply size = (size ≡ reply_size) ⊎ AllowsFrom showing_size size
AllowsSize kind.Stop size = size ≡ 0
AllowsSize kind.Bye size = size ≡ 1
