-- The requests of a client, one after another.
use Rattle.std.specs.Prelude.{ℕ, List}
use Rattle.std.specs.List.{flat_map}
use Rattle.wire_msg.specs.Fits.{IsMessage}
use Rattle.wire_msg.specs.Spelling.{frame_of}
use Rattle.wire_msg.specs.declared.kind.Side.TheVariants.{Requests}
use Rattle.wire_msg.specs.declared.message.Message.{Message}

-- the message is a client's
abbrev pub IsRequest : Message → Type 0
IsRequest message = IsMessage Requests message

-- their frames
abbrev pub frames : List Message → List ℕ
frames messages = flat_map frame_of messages
