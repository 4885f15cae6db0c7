-- Which replies fit their requests.
use Rattle.std.specs.Prelude.{◌≡◌, ℕ, Bool, ◌==◌, ◌||◌, true, List, [], ◌∷◌, is_some, slice_index_or}
use Rattle.std.specs.List.{list_any}
use Rattle.wire_msg.specs.declared.message.DecodeSaid.{DecodeSaid}
use Rattle.wire_msg.specs.declared.message.EncodeSaid.{EncodeSaid}
use Rattle.wire_msg.specs.declared.message.Message.{Message}
use Rattle.wire_msg.specs.declared.message.Message.TheVariants.{EncodeRequest, EncodeReply, DecodeRequest, DecodeReply, Stop, Bye}

-- a status that the daemon may answer to an encode request
abbrev pub is_encode_status : (status : ℕ) → Bool
is_encode_status status =
    (status == 0) || ((status == 2) || ((status == 3) || ((status == 10) || (status == 11))))

-- the statuses that the daemon may answer beside each rule, from 0 on, where 0 says that no rule
-- was broken
abbrev pub statuses_of_rules : List (List ℕ)
statuses_of_rules =
    (0 ∷ []) ∷ (8 ∷ []) ∷ (8 ∷ 9 ∷ []) ∷ (8 ∷ 10 ∷ []) ∷ (11 ∷ []) ∷ (12 ∷ []) ∷ (13 ∷ [])
    ∷ (8 ∷ []) ∷ (14 ∷ []) ∷ (8 ∷ []) ∷ (18 ∷ []) ∷ (18 ∷ []) ∷ (16 ∷ []) ∷ (15 ∷ []) ∷ (17 ∷ []) ∷ []

-- this status may stand beside this rule
abbrev pub agrees : (status rule : ℕ) → Bool
agrees status rule = list_any (λ one. one == status) (slice_index_or statuses_of_rules rule [])

-- with this rule the content is shown
abbrev pub shows_content : (rule : ℕ) → Bool
shows_content rule = (rule == 0) || ((rule == 12) || ((rule == 13) || (rule == 14)))

-- an encode reply fits by its status
abbrev pub FitsEncodeSaid : EncodeSaid → Type 0
FitsEncodeSaid said = is_encode_status said.status ≡ true

-- a decode reply fits where its status agrees with its rule, and the content is there just where
-- the rule shows it
pub record FitsDecodeSaid (said : DecodeSaid) : Type 0 where
  pub agree : agrees said.status said.rule ≡ true
  pub content : is_some said.content ≡ shows_content said.rule

-- it is an encode reply that fits
abbrev pub FitsEncode : Message → Type 0
FitsEncode (EncodeReply said) = FitsEncodeSaid said
FitsEncode (EncodeRequest ask) = ⊥
FitsEncode (DecodeRequest text) = ⊥
FitsEncode (DecodeReply said) = ⊥
FitsEncode Stop = ⊥
FitsEncode (Bye status) = ⊥

-- it is a decode reply that fits
abbrev pub FitsDecode : Message → Type 0
FitsDecode (DecodeReply said) = FitsDecodeSaid said
FitsDecode (EncodeRequest ask) = ⊥
FitsDecode (EncodeReply said) = ⊥
FitsDecode (DecodeRequest text) = ⊥
FitsDecode Stop = ⊥
FitsDecode (Bye status) = ⊥
