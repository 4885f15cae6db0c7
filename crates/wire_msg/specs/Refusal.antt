-- Why a message has no frame, and what is printed of it.
use Rattle.std.specs.Prelude.{◌≡◌, ℕ, ◌<◌, ◌≤◌, List, ◌++◌, length, codes}
use Rattle.std.specs.Fmt.{decimal}
use Rattle.wire_msg.specs.FrameHead.{body_limit}
use Rattle.wire_msg.specs.Spelling.{body_of}
use Rattle.wire_msg.specs.declared.message.Message.{Message}
use Rattle.wire_msg.specs.declared.writing.FrameRefused.{FrameRefused}
use Rattle.wire_msg.specs.declared.writing.FrameRefused.TheVariants.{TooLong, NoMemory}

-- the body of the message is too long, and has so many bytes; or it is not, and there was no memory
abbrev pub Refuses : Message → FrameRefused → Type 0
Refuses message (TooLong size) = (body_limit < size) × (size ≡ length (body_of message))
Refuses message NoMemory = length (body_of message) ≤ body_limit

abbrev pub refused_text : FrameRefused → List ℕ
refused_text (TooLong size) = codes "a body of " ++ (decimal size ++ codes " bytes is too long")
refused_text NoMemory = codes "no memory"
