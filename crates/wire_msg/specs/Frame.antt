-- Which bytes are frames.
use Rattle.std.specs.Prelude.{◌≡◌, ◌≢◌, ℕ, ◌⊎◌, List, [], ◌++◌}
use Rattle.wire_msg.specs.Fits.{IsMessage}
use Rattle.wire_msg.specs.Spelling.{frame_of}
use Rattle.wire_msg.specs.declared.kind.Side.{Side}
use Rattle.wire_msg.specs.declared.message.Message.{Message}

-- the bytes are a message's frame
pub record IsFrame (side : Side) (bytes : List ℕ) : Type 0 where
  pub message : Message
  pub is_message : IsMessage side message
  pub spelled : bytes ≡ frame_of message

-- the bytes begin with a whole frame
pub record BeginsFrame (side : Side) (bytes : List ℕ) : Type 0 where
  pub frame : List ℕ
  pub rest : List ℕ
  pub is_frame : IsFrame side frame
  pub begins : bytes ≡ frame ++ rest

-- some bytes after these make a frame: they are a prefix of one
pub record IsFramePrefix (side : Side) (bytes : List ℕ) : Type 0 where
  pub rest : List ℕ
  pub completed : IsFrame side (bytes ++ rest)

-- the bytes are a prefix of a frame and not all of it
pub record IsUnfinished (side : Side) (bytes : List ℕ) : Type 0 where
  pub rest : List ℕ
  pub wants_some : rest ≢ []
  pub completed : IsFrame side (bytes ++ rest)

-- the bytes begin with a whole frame, or are a prefix of one and not all of it
abbrev pub LeadsToFrame : Side → List ℕ → Type 0
LeadsToFrame side bytes = BeginsFrame side bytes ⊎ IsUnfinished side bytes

-- the bytes begin with no whole frame, and are a prefix of none
pub record IsNoFrame (side : Side) (bytes : List ℕ) : Type 0 where
  pub begins_none : BeginsFrame side bytes → ⊥
  pub goes_on_to_none : IsFramePrefix side bytes → ⊥
