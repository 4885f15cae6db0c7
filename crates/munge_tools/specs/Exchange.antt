-- One request to the daemon, and what comes back.
use Rattle.std.specs.Prelude.{◌≡◌, ℕ, ◌⊎◌, List, [], ◌++◌}
use Rattle.wire_msg.specs.Fits.{IsMessage}
use Rattle.wire_msg.specs.Frame.{IsUnfinished, LeadsToFrame}
use Rattle.wire_msg.specs.Spelling.{frame_of}
use Rattle.wire_msg.specs.declared.kind.Side.TheVariants.{Replies}
use Rattle.wire_msg.specs.declared.message.Message.{Message}
use Rattle.munge_tools.specs.Output.{IsCut}
use Rattle.munge_tools.specs.Wire.{Dialled, ReplyEnded, Undialled, WireSeen}
use Rattle.munge_tools.specs.declared.exchange.Unheard.{Unheard}
use Rattle.munge_tools.specs.declared.exchange.Unheard.TheVariants.{Unreached, BadReply, NoMemory}

-- any reply
abbrev pub AnyReply : Message → Type 0
AnyReply message = Unit {0}

-- these bytes and some more are the frame of a reply that fits, and then come more
pub record LeadsToFitting (Fits : Message → Type 0) (bytes more rest : List ℕ) : Type 0 where
  pub message : Message
  pub is_message : IsMessage Replies message
  pub fits : Fits message
  pub spelled : bytes ++ more ≡ frame_of message ++ rest

-- the bytes begin with no frame of a reply that fits
abbrev pub BeginsNoFitting : (Fits : Message → Type 0) → (bytes : List ℕ) → Type 0
BeginsNoFitting Fits bytes = (rest : List ℕ) → LeadsToFitting Fits bytes [] rest → ⊥

-- they are a prefix of none
abbrev pub IsPrefixOfNone : (Fits : Message → Type 0) → (bytes : List ℕ) → Type 0
IsPrefixOfNone Fits bytes = (more : List ℕ) → LeadsToFitting Fits bytes more [] → ⊥

-- What was read is no reply that fits: the bytes begin with no frame of one, and are a prefix of
-- none or all that came.
pub record IsBadReply (Fits : Message → Type 0) (ended : Type 0) (bytes : List ℕ) : Type 0 where
  pub begins_none : BeginsNoFitting Fits bytes
  pub goes_on_to_none : IsPrefixOfNone Fits bytes ⊎ ended

-- a request of this frame went out to this path, and this message came back
pub record Heard (path frame : List ℕ) (before after : WireSeen) (message : Message)
    : Type 0 where
  pub is_message : IsMessage Replies message
  pub dialled : Dialled path before after frame (frame_of message)

-- What went out and came back where no reply came that fits, for each cause.
pub data NotHeard (Fits : Message → Type 0) (path frame : List ℕ) (before after : WireSeen)
    (why : Unheard) : Type 0 where
  -- no memory was left before the dial
  unmade : Undialled before after → why ≡ NoMemory
      → NotHeard Fits path frame before after why
  -- the dial failed
  undialled : Undialled before after → why ≡ Unreached
      → NotHeard Fits path frame before after why
  -- a write failed when less than the request had gone out
  cut : (front : List ℕ) → IsCut front frame → Dialled path before after front []
      → after.ends ≡ before.ends → why ≡ Unreached
      → NotHeard Fits path frame before after why
  -- a read failed when less than a reply had come
  unread : (bytes : List ℕ) → IsUnfinished Replies bytes → Dialled path before after frame bytes
      → after.ends ≡ before.ends → why ≡ Unreached
      → NotHeard Fits path frame before after why
  -- what was read is no reply that fits
  unfit : (bytes : List ℕ) → IsBadReply Fits (ReplyEnded before after) bytes
      → Dialled path before after frame bytes → why ≡ BadReply
      → NotHeard Fits path frame before after why
  -- no memory was left for the reply
  unheld : (bytes : List ℕ) → LeadsToFrame Replies bytes
      → Dialled path before after frame bytes → why ≡ NoMemory
      → NotHeard Fits path frame before after why
