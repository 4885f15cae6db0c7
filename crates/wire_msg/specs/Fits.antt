-- Which messages there are.
use Rattle.std.specs.Prelude.{◌≡◌, ◌<◌, ◌≤◌, ◌^◌, length}
use Rattle.std.specs.declared.option.Option.{Option}
use Rattle.std.specs.declared.option.Option.TheVariants.{None, Some}
use Rattle.munge_types.specs.Bytes.{IsBytes}
use Rattle.wire_msg.specs.FrameHead.{body_limit}
use Rattle.wire_msg.specs.Spelling.{body_of, fields_of, side_of}
use Rattle.wire_msg.specs.declared.kind.Side.{Side}
use Rattle.wire_msg.specs.declared.message.Content.{Content}
use Rattle.wire_msg.specs.declared.message.ContentFields.{ContentFields}
use Rattle.wire_msg.specs.declared.message.DecodeSaid.{DecodeSaid}
use Rattle.wire_msg.specs.declared.message.EncodeAsk.{EncodeAsk}
use Rattle.wire_msg.specs.declared.message.EncodeSaid.{EncodeSaid}
use Rattle.wire_msg.specs.declared.message.Message.{Message}
use Rattle.wire_msg.specs.declared.message.Message.TheVariants.{EncodeRequest, EncodeReply, DecodeRequest, DecodeReply, Stop, Bye}

-- the fields of an encode request fit their bytes
pub record FitsAsk (ask : EncodeAsk) : Type 0 where
  pub cipher : ask.cipher < 256
  pub kind : ask.kind < 256
  pub ttl : ask.ttl < 2 ^ 32
  pub for_uid : ask.for_uid < 2 ^ 32
  pub for_gid : ask.for_gid < 2 ^ 32
  pub payload : IsBytes ask.payload

-- the fields of an encode reply fit their bytes
pub record FitsEncodeSaid (said : EncodeSaid) : Type 0 where
  pub status : said.status < 256
  pub text : IsBytes said.text

-- the fields of a content before the payload fit their bytes
pub record FitsContentFields (fields : ContentFields) : Type 0 where
  pub cipher : fields.cipher < 256
  pub kind : fields.kind < 256
  pub addr_size : length fields.addr ≡ 4
  pub addr : IsBytes fields.addr
  pub time : fields.time < 2 ^ 32
  pub ttl : fields.ttl < 2 ^ 32
  pub uid : fields.uid < 2 ^ 32
  pub gid : fields.gid < 2 ^ 32
  pub for_uid : fields.for_uid < 2 ^ 32
  pub for_gid : fields.for_gid < 2 ^ 32

-- the fields of a content fit their bytes
pub record FitsContent (content : Content) : Type 0 where
  pub fields : FitsContentFields (fields_of content)
  pub payload : IsBytes content.payload

-- those of a content, if there is one
abbrev pub FitsIfAny : Option Content → Type 0
FitsIfAny None = Unit {0}
FitsIfAny (Some content) = FitsContent content

-- the fields of a decode reply fit their bytes
pub record FitsDecodeSaid (said : DecodeSaid) : Type 0 where
  pub status : said.status < 256
  pub rule : said.rule < 256
  pub place : said.place < 2 ^ 64
  pub content : FitsIfAny said.content

-- the fields of a message fit their bytes
abbrev pub FitsFields : Message → Type 0
FitsFields (EncodeRequest ask) = FitsAsk ask
FitsFields (EncodeReply said) = FitsEncodeSaid said
FitsFields (DecodeRequest text) = IsBytes text
FitsFields (DecodeReply said) = FitsDecodeSaid said
FitsFields Stop = Unit {0}
FitsFields (Bye status) = status < 256

-- it is a message of this side
pub record IsMessage (side : Side) (message : Message) : Type 0 where
  pub sent_by : side_of message ≡ side
  pub fits : FitsFields message
  pub within : length (body_of message) ≤ body_limit
