-- What unmunge prints of a decode reply.
use Rattle.std.specs.Prelude.{ℕ, ◌==◌, codes, if◌then◌else◌, List, [], ◌++◌, length, slice_index}
use Rattle.std.specs.Fmt.{decimal}
use Rattle.std.specs.declared.option.Option.{Option}
use Rattle.std.specs.declared.option.Option.TheVariants.{None, Some}
use Rattle.wire_msg.specs.declared.message.Content.{Content}
use Rattle.wire_msg.specs.declared.message.DecodeSaid.{DecodeSaid}

-- a line of a name and a value
abbrev pub field : (name value : List ℕ) → List ℕ
field name value = name ++ (codes ": " ++ (value ++ codes "\n"))

-- a place in the history, which may be none
abbrev pub place_text : (place : ℕ) → List ℕ
place_text place = if place == 18446744073709551615 then codes "none" else decimal place

-- a UID or a GID that alone may open, which may be any
abbrev pub restriction_text : (id : ℕ) → List ℕ
restriction_text id = if id == 4294967295 then codes "any" else decimal id

-- the four numbers of an address, with full stops between them
abbrev pub address_text : (addr : List ℕ) → List ℕ
address_text addr =
    decimal (slice_index addr 0) ++ (codes "." ++ (decimal (slice_index addr 1) ++ (codes "."
    ++ (decimal (slice_index addr 2) ++ (codes "." ++ decimal (slice_index addr 3))))))

-- how and where it was sealed
unfoldable pub origin_text : Content → List ℕ
origin_text content =
    field (codes "CIPHER") (decimal content.cipher)
    ++ (field (codes "MAC") (decimal content.kind)
    ++ field (codes "ADDRESS") (address_text content.addr))

-- when it was sealed, and for how long it is good
unfoldable pub times_text : Content → List ℕ
times_text content =
    field (codes "TIME") (decimal content.time) ++ field (codes "TTL") (decimal content.ttl)

-- who asked for it
unfoldable pub owner_text : Content → List ℕ
owner_text content =
    field (codes "UID") (decimal content.uid) ++ field (codes "GID") (decimal content.gid)

-- who may open it
unfoldable pub restrictions_text : Content → List ℕ
restrictions_text content =
    field (codes "UID_RESTRICTION") (restriction_text content.for_uid)
    ++ field (codes "GID_RESTRICTION") (restriction_text content.for_gid)

-- how much it carries, and after an empty line what
unfoldable pub payload_text : (payload : List ℕ) → List ℕ
payload_text payload =
    field (codes "LENGTH") (decimal (length payload)) ++ (codes "\n" ++ payload)

-- the content, if it is shown
abbrev pub content_text : Option Content → List ℕ
content_text None = []
content_text (Some content) =
    origin_text content
    ++ (times_text content
    ++ (owner_text content
    ++ (restrictions_text content ++ payload_text content.payload)))

-- the status, the first rule that was broken, and the place
unfoldable pub verdict_text : DecodeSaid → List ℕ
verdict_text said =
    field (codes "STATUS") (decimal said.status)
    ++ (field (codes "RULE") (decimal said.rule)
    ++ field (codes "PLACE") (place_text said.place))

-- what is printed of a decode reply
abbrev pub printed_text : DecodeSaid → List ℕ
printed_text said = verdict_text said ++ content_text said.content
