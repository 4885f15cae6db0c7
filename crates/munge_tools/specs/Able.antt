-- What a tool needs to come to an end of its own: words that ask, something to send, and a reply.
use Rattle.std.specs.Prelude.{◌≡◌, ℕ, ◌≤◌, List, [], ◌∷◌, ◌++◌, length, Option, Some}
use Rattle.clap.specs.Words.{Text}
use Rattle.wire_msg.specs.Fits.{IsMessage}
use Rattle.wire_msg.specs.FrameHead.{body_limit}
use Rattle.wire_msg.specs.Spelling.{frame_of}
use Rattle.wire_msg.specs.declared.kind.Side.TheVariants.{Replies}
use Rattle.wire_msg.specs.declared.message.DecodeSaid.{DecodeSaid}
use Rattle.wire_msg.specs.declared.message.EncodeSaid.{EncodeSaid}
use Rattle.wire_msg.specs.declared.message.Message.{Message}
use Rattle.wire_msg.specs.declared.message.Message.TheVariants.{DecodeReply, EncodeReply}
use Rattle.munge_tools.specs.Fitting.{FitsDecode, FitsEncode}
use Rattle.munge_tools.specs.Munge.{payload_limit}
use Rattle.munge_tools.specs.MungeWords.{AskedMunge, Payload, munge_asked}
use Rattle.munge_tools.specs.MungeWords as payload
use Rattle.munge_tools.specs.Things.{Things}
use Rattle.munge_tools.specs.UnmungeWords.{AskedUnmunge, unmunge_asked}
use Rattle.munge_tools.specs.Wire.{WireSeen}

-- the first reply still to come begins with the frame of this message, which fits
pub record GivesReply (Fits : Message → Type 0) (wire : WireSeen) (message : Message)
    : Type 0 where
  pub is_message : IsMessage Replies message
  pub fits : Fits message
  pub rest : List ℕ
  pub replies : List (List ℕ)
  pub told : wire.replies ≡ Some ((frame_of message ++ rest) ∷ replies)

-- this is what is asked to be sealed, where an input that is read tells what it has
abbrev pub GivesPayload : Payload → (left : Option (List ℕ)) → List ℕ → Type 0
GivesPayload (payload.text given) left bytes = bytes ≡ given
GivesPayload payload.nothing left bytes = bytes ≡ []
GivesPayload payload.input left bytes = left ≡ Some bytes

-- munge has all that it needs
pub record CanSeal (words : List Text) (before : Things) : Type 0 where
  pub asked : AskedMunge
  pub asks : munge_asked words ≡ Some asked
  pub bytes : List ℕ
  pub gives : GivesPayload asked.payload before.input.left bytes
  pub within : length bytes ≤ payload_limit
  pub said : EncodeSaid
  pub reply : GivesReply FitsEncode before.wire (EncodeReply said)

-- unmunge has
pub record CanOpen (words : List Text) (before : Things) : Type 0 where
  pub asked : AskedUnmunge
  pub asks : unmunge_asked words ≡ Some asked
  pub text : List ℕ
  pub gives : before.input.left ≡ Some text
  pub within : length text ≤ body_limit
  pub said : DecodeSaid
  pub reply : GivesReply FitsDecode before.wire (DecodeReply said)
