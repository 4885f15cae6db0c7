-- How a message is spelled.
use Rattle.std.specs.Prelude.{ℕ, List, [], ◌∷◌, ◌++◌, length}
use Rattle.std.specs.declared.option.Option.{Option}
use Rattle.std.specs.declared.option.Option.TheVariants.{None, Some}
use Rattle.munge_types.specs.BigEndian.{be32, be64}
use Rattle.wire_msg.specs.FrameHead.{message_head, side_of_kind}
use Rattle.wire_msg.specs.declared.kind.Kind.{Kind}
use Rattle.wire_msg.specs.declared.kind.Kind.TheVariants as kind
use Rattle.wire_msg.specs.declared.kind.Side.{Side}
use Rattle.wire_msg.specs.declared.message.Content.{Content}
use Rattle.wire_msg.specs.declared.message.EncodeAsk.{EncodeAsk}
use Rattle.wire_msg.specs.declared.message.Message.{Message}
use Rattle.wire_msg.specs.declared.message.Message.TheVariants.{EncodeRequest, EncodeReply, DecodeRequest, DecodeReply, Stop, Bye}
use Rattle.wire_msg.specs.declared.message.ContentFields.{ContentFields}

-- the kind of a message
abbrev pub kind_of : Message → Kind
kind_of (EncodeRequest ask) = kind.EncodeRequest
kind_of (EncodeReply said) = kind.EncodeReply
kind_of (DecodeRequest text) = kind.DecodeRequest
kind_of (DecodeReply said) = kind.DecodeReply
kind_of Stop = kind.Stop
kind_of (Bye status) = kind.Bye

-- who sends it
abbrev pub side_of : Message → Side
side_of message = side_of_kind (kind_of message)

-- the fourteen bytes of an encode request before the payload
abbrev pub ask_head : EncodeAsk → List ℕ
ask_head ask = ask.cipher ∷ ask.kind ∷ (be32 ask.ttl ++ (be32 ask.for_uid ++ be32 ask.for_gid))

-- the ten bytes of a decode reply before the content: status, rule and place
abbrev pub reply_head : (status rule place : ℕ) → List ℕ
reply_head status rule place = status ∷ rule ∷ be64 place

-- the fields of a content before the payload
abbrev pub fields_of : Content → ContentFields
fields_of content =
    record {
      cipher = content.cipher;
      kind = content.kind;
      addr = content.addr;
      time = content.time;
      ttl = content.ttl;
      uid = content.uid;
      gid = content.gid;
      for_uid = content.for_uid;
      for_gid = content.for_gid;
    }

-- the thirty bytes of a content before the payload
abbrev pub content_head : ContentFields → List ℕ
content_head fields =
    fields.cipher ∷ fields.kind ∷ (fields.addr ++ (be32 fields.time ++ (be32 fields.ttl
    ++ (be32 fields.uid ++ (be32 fields.gid ++ (be32 fields.for_uid ++ be32 fields.for_gid))))))

-- the content of a decode reply, if any
abbrev pub content_bytes : Option Content → List ℕ
content_bytes None = []
content_bytes (Some content) = content_head (fields_of content) ++ content.payload

-- the body of a message
abbrev pub body_of : Message → List ℕ
body_of (EncodeRequest ask) = ask_head ask ++ ask.payload
body_of (EncodeReply said) = said.status ∷ said.text
body_of (DecodeRequest text) = text
body_of (DecodeReply said) =
    reply_head said.status said.rule said.place ++ content_bytes said.content
body_of Stop = []
body_of (Bye status) = status ∷ []

-- the one spelling of a message: its head and its body
abbrev pub frame_of : Message → List ℕ
frame_of message = message_head (kind_of message) (length (body_of message)) ++ body_of message
