-- What a feeder keeps, and what it answers to a piece.
use Rattle.std.specs.Prelude.{◌≡◌, ℕ, ◌+◌, ◌≤◌, min, List, [], ◌++◌, length, take}
use Rattle.wire_msg.specs.Fits.{IsMessage}
use Rattle.wire_msg.specs.Frame.{IsUnfinished, IsNoFrame}
use Rattle.wire_msg.specs.Spelling.{frame_of}
use Rattle.wire_msg.specs.declared.fed.Fed.{Fed}
use Rattle.wire_msg.specs.declared.fed.Fed.TheVariants.{Message, More, Bad}
use Rattle.wire_msg.specs.declared.kind.Side.{Side}

-- what a feeder keeps
pub record Feeding : Type 0 where
  pub side : Side
  -- how many bytes all whole frames before had
  pub begins : ℕ
  -- the bytes of the frame that begins there, as far as they came
  pub unfinished : List ℕ

-- the bytes of that frame with those of a piece
abbrev pub bytes_with : Feeding → (piece : List ℕ) → List ℕ
bytes_with kept piece = kept.unfinished ++ piece

-- where a frame ends that begins at this place and has so many bytes; the place stays at the last
abbrev pub place_after : (begins size : ℕ) → ℕ
place_after begins size = min (begins + size) 18446744073709551615

-- What is answered to a piece. A message: the unfinished bytes and the used ones are its frame.
-- More: with the whole piece they are a frame's that is not whole. Bad: they are no frame's, and it
-- would have begun at this place.
abbrev pub Answers : (kept : Feeding) → (piece : List ℕ) → Fed → Type 0
Answers kept piece (Message message used) =
    IsMessage kept.side message × (used ≤ length piece)
    × (bytes_with kept (take used piece) ≡ frame_of message)
Answers kept piece More = IsUnfinished kept.side (bytes_with kept piece)
Answers kept piece (Bad place) =
    IsNoFrame kept.side (bytes_with kept piece) × (place ≡ kept.begins)

-- What is kept after an answer. A message: nothing, and the next frame begins behind it. More: the
-- piece as well. Bad: bytes that are no frame's, whatever comes after them.
abbrev pub Leaves : (kept : Feeding) → (piece : List ℕ) → Fed → (kept' : Feeding) → Type 0
Leaves kept piece (Message message used) kept' =
    (kept'.unfinished ≡ [])
    × (kept'.begins ≡ place_after kept.begins (length (frame_of message)))
Leaves kept piece More kept' =
    (kept'.unfinished ≡ bytes_with kept piece) × (kept'.begins ≡ kept.begins)
Leaves kept piece (Bad place) kept' =
    ((more : List ℕ) → IsNoFrame kept.side (bytes_with kept' more)) × (kept'.begins ≡ kept.begins)
