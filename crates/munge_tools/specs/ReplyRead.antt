-- What is read of a reply.
use Rattle.std.specs.Prelude.{◌≡◌, ℕ, ◌≤◌, List, ◌++◌, length, Option}
use Rattle.std.specs.Io.KnownBytes.{Consumes, IsAtEnd}
use Rattle.byte_io.specs.Counts.{Rose}
use Rattle.wire_msg.specs.Feeding.{Feeding}
use Rattle.wire_msg.specs.Fits.{IsMessage}
use Rattle.wire_msg.specs.Frame.{IsNoFrame, IsUnfinished, LeadsToFrame}
use Rattle.wire_msg.specs.Spelling.{frame_of}
use Rattle.wire_msg.specs.declared.kind.Side.TheVariants.{Replies}
use Rattle.munge_tools.specs.declared.exchange.Unheard.{Unheard}
use Rattle.munge_tools.specs.declared.exchange.Unheard.TheVariants.{Unreached, BadReply, NoMemory}
use Rattle.munge_tools.specs.declared.reply.Step.{Step}
use Rattle.munge_tools.specs.declared.reply.Step.TheVariants.{Whole, Part}

-- of a source: the bytes left, where they are told, and how many reads found the end
pub record Input : Type 0 where
  pub left : Option (List ℕ)
  pub ends : ℕ

abbrev pub input_of : (left : Option (List ℕ)) → (ends : ℕ) → Input
input_of left ends = record { left = left; ends = ends }

-- some bytes were read, of which this holds
pub record Reads (before after : Input) (P : List ℕ → Type 0) : Type 0 where
  pub bytes : List ℕ
  pub consumed : Consumes before.left after.left bytes
  pub no_end : after.ends ≡ before.ends
  pub holds : P bytes

-- the input came to its end
pub record AtEnd (before after : Input) : Type 0 where
  pub found : Rose before.ends after.ends
  pub nothing_left : IsAtEnd after.left

-- some bytes were read behind those that a feeder keeps: they make a reply, or a longer part of one
abbrev pub Took : (kept kept' : Feeding) (before after : Input) → Step → Type 0
Took kept kept' before after (Whole message) =
    Reads before after (λ piece.
    IsMessage Replies message × (kept.unfinished ++ piece ≡ frame_of message))
Took kept kept' before after Part =
    Reads before after (λ piece.
    (kept'.unfinished ≡ kept.unfinished ++ piece) × (1 ≤ length piece)
    × IsUnfinished Replies (kept.unfinished ++ piece))

-- what a piece makes of a reply behind the bytes that a feeder keeps
abbrev pub Came : (kept kept' : Feeding) (piece : List ℕ) → Step → Type 0
Came kept kept' piece (Whole message) =
    IsMessage Replies message × (kept.unfinished ++ piece ≡ frame_of message)
Came kept kept' piece Part =
    (kept'.unfinished ≡ kept.unfinished ++ piece) × IsUnfinished Replies (kept.unfinished ++ piece)

-- why it makes none
abbrev pub PieceRefused : (kept : Feeding) (piece : List ℕ) → Unheard → Type 0
PieceRefused kept piece Unreached = ⊥
PieceRefused kept piece BadReply = IsNoFrame Replies (kept.unfinished ++ piece)
PieceRefused kept piece NoMemory = LeadsToFrame Replies (kept.unfinished ++ piece)

-- What was read behind these bytes of a reply where no whole one came, for each cause.
pub data Stopped (so_far : List ℕ) (before after : Input) (why : Unheard) : Type 0 where
  -- what came is no reply
  broken : Reads before after (λ piece. IsNoFrame Replies (so_far ++ piece)) → why ≡ BadReply
      → Stopped so_far before after why
  -- it ended before it was whole
  ended : (piece : List ℕ) → Consumes before.left after.left piece
      → IsUnfinished Replies (so_far ++ piece) → AtEnd before after → why ≡ BadReply
      → Stopped so_far before after why
  -- a read failed before it was whole
  failed : Reads before after (λ piece. IsUnfinished Replies (so_far ++ piece))
      → why ≡ Unreached → Stopped so_far before after why
  -- no memory was left for it
  no_memory : Reads before after (λ piece. LeadsToFrame Replies (so_far ++ piece))
      → why ≡ NoMemory → Stopped so_far before after why
