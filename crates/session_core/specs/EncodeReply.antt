-- The reply to an encode request.
use Rattle.std.specs.Prelude.{◌≡◌, ℕ, List, []}
use Rattle.std.specs.declared.option.Option.{Option}
use Rattle.std.specs.declared.option.Option.TheVariants.{None, Some}
use Rattle.munge_types.specs.Status.{status_number}
use Rattle.munge_types.specs.declared.status.Status.{Status}
use Rattle.munge_types.specs.declared.status.Status.TheVariants as status
use Rattle.cred_seal.specs.Asked.{Asked}
use Rattle.cred_seal.specs.Dice.{next_place, salt_at, vector_at}
use Rattle.cred_seal.specs.RoundTrip.{OpensInSpaces}
use Rattle.cred_seal.specs.SealRefused.{first_refusal}
use Rattle.cred_seal.specs.SealedContent.{sealed_content}
use Rattle.cred_seal.specs.SealedText.{IsSealed}
use Rattle.cred_seal.specs.declared.sealing.SealRefused.{SealRefused}
use Rattle.cred_seal.specs.declared.sealing.SealRefused.TheVariants as cause
use Rattle.cred_inner.specs.InnerPart.{Content}
use Rattle.decode_rules.specs.Terms.{Terms}
use Rattle.wire_msg.specs.Spelling.{frame_of}
use Rattle.wire_msg.specs.declared.message.Message.TheVariants.{EncodeReply}

-- the frame of an encode reply with this status and this text
abbrev pub encode_reply : Status → (text : List ℕ) → List ℕ
encode_reply said text =
    frame_of (EncodeReply (record { status = status_number said; text = text }))

-- the status of each refusal that is replied; want of memory is none of them, as a session that
-- finds none replies nothing
abbrev pub refusal_status : SealRefused → Option Status
refusal_status cause.BadCipher = Some status.BadCipher
refusal_status cause.BadMac = Some status.BadMac
refusal_status (cause.BadLength size) = Some status.BadLength
refusal_status cause.NoMemory = None

-- what is sealed for a caller on these terms
abbrev pub content_sealed : Terms → (moment : ℕ) → Asked → (salt : List ℕ) → Content
content_sealed terms moment asked salt = sealed_content terms.settings asked terms.who moment salt

-- The text is what was asked, sealed with this salt and vector. That it opens, with any spaces
-- round it, to what was asked, by whom and when, is what `cred_seal` promises of it, carried along.
pub record IsSealedFor (terms : Terms) (moment : ℕ) (asked : Asked) (salt vector text : List ℕ)
    : Type 0 where
  pub unrefused : first_refusal asked ≡ None
  pub is_sealed : IsSealed terms.files.key terms.settings asked terms.who moment salt vector text
  pub opens : OpensInSpaces terms.files.key (content_sealed terms moment asked salt) text

-- The reply is that to what is asked, sealed with this salt and vector: the text, or why there is
-- none.
pub data IsSealReply (terms : Terms) (moment : ℕ) (asked : Asked) (salt vector reply : List ℕ)
    : Type 0 where
  sealed : (text : List ℕ) → IsSealedFor terms moment asked salt vector text
      → reply ≡ encode_reply status.Success text → IsSealReply terms moment asked salt vector reply
  refused : (why : SealRefused) (said : Status)
      → first_refusal asked ≡ Some why → refusal_status why ≡ Some said
      → reply ≡ encode_reply said [] → IsSealReply terms moment asked salt vector reply

-- The reply to an encode request of a session, where the next word of the seed is the one at this
-- place, and the place afterwards. Without a seed nothing is sealed. With one, the words are drawn
-- whatever the reply.
abbrev pub Encodes : Terms → (seed : Option (List ℕ)) → (place moment : ℕ) → Asked
    → (reply : List ℕ) → (next : ℕ) → Type 0
Encodes terms None place moment asked reply next =
    (reply ≡ encode_reply status.BadArgument []) × (next ≡ place)
Encodes terms (Some seed) place moment asked reply next =
    IsSealReply terms moment asked (salt_at seed place) (vector_at seed place) reply
    × (next ≡ next_place place)
