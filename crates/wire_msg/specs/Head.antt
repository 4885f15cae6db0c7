-- What the first bytes of a frame say.
use Rattle.std.specs.Prelude.{◌≡◌, ◌≢◌, ℕ, ◌<◌, ◌≤◌, List, [], ◌∷◌, ◌++◌, length, take}
use Rattle.munge_types.specs.BigEndian.{be32}
use Rattle.wire_msg.specs.FrameHead.{AllowsSize, message_head, head_size, side_of_kind}
use Rattle.wire_msg.specs.declared.head.Seen.{Seen}
use Rattle.wire_msg.specs.declared.head.Seen.TheVariants.{Whole, Part, Broken}
use Rattle.wire_msg.specs.declared.kind.Kind.{Kind}
use Rattle.wire_msg.specs.declared.kind.Side.{Side}

-- a frame of this side may have this head
pub record IsHead (side : Side) (kind : Kind) (size : ℕ) : Type 0 where
  pub sent_by : side_of_kind kind ≡ side
  pub allowed : AllowsSize kind size

-- the bytes are a head's first ones
pub record IsHeadPart (side : Side) (bytes : List ℕ) : Type 0 where
  pub kind : Kind
  pub size : ℕ
  pub rest : List ℕ
  pub is_head : IsHead side kind size
  pub completed : bytes ++ rest ≡ message_head kind size

-- no frame begins with the bytes, whatever comes after them
abbrev pub BeginsNoHead : Side → List ℕ → Type 0
BeginsNoHead side bytes =
    (kind : Kind) (size : ℕ) (more rest : List ℕ) → IsHead side kind size
    → bytes ++ more ≢ message_head kind size ++ rest

-- what is seen of a head in the first bytes, of which there are seven at most
abbrev pub Sees : Side → List ℕ → Seen → Type 0
Sees side bytes (Whole head) =
    IsHead side head.kind head.size × (bytes ≡ message_head head.kind head.size)
Sees side bytes Part = (length bytes < head_size) × IsHeadPart side bytes
Sees side bytes Broken = BeginsNoHead side bytes

-- a length of this kind begins with the bytes
pub record IsSizePart (kind : Kind) (bytes : List ℕ) : Type 0 where
  pub size : ℕ
  pub rest : List ℕ
  pub allowed : AllowsSize kind size
  pub completed : bytes ++ rest ≡ be32 size

-- what is seen of a head of this kind in the first bytes of the length, of which there are four at
-- most
abbrev pub SeesSize : Kind → List ℕ → Seen → Type 0
SeesSize kind bytes (Whole head) =
    (head.kind ≡ kind) × AllowsSize kind head.size × (bytes ≡ be32 head.size)
SeesSize kind bytes Part = (length bytes < 4) × IsSizePart kind bytes
SeesSize kind bytes Broken =
    (size : ℕ) (more rest : List ℕ) → AllowsSize kind size → bytes ++ more ≢ be32 size ++ rest

-- no allowed length from this one on is below that one
abbrev pub IsLeast : Kind → (from size : ℕ) → Type 0
IsLeast kind from size = (other : ℕ) → from ≤ other → AllowsSize kind other → size ≤ other

-- the first bytes of four, where all others are this one
abbrev pub filled : (other : ℕ) → List ℕ → List ℕ
filled other bytes = take 4 (bytes ++ (other ∷ other ∷ other ∷ other ∷ []))
