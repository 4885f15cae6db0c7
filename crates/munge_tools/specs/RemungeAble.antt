-- What remunge needs to come to an end of its own: words that ask, and replies that fit.
use Rattle.std.specs.Prelude.{◌≡◌, ◌≢◌, ℕ, ◌≤◌, zero, suc, Bool, true, false, List, ◌∷◌, ◌++◌, length, Option, Some}
use Rattle.std.specs.Io.KnownBytes.{Appends}
use Rattle.clap.specs.Words.{Text}
use Rattle.wire_msg.specs.Fits.{IsMessage}
use Rattle.wire_msg.specs.Spelling.{frame_of}
use Rattle.wire_msg.specs.declared.kind.Side.TheVariants.{Replies}
use Rattle.wire_msg.specs.declared.message.DecodeSaid.{DecodeSaid}
use Rattle.wire_msg.specs.declared.message.EncodeSaid.{EncodeSaid}
use Rattle.wire_msg.specs.declared.message.Message.{Message}
use Rattle.wire_msg.specs.declared.message.Message.TheVariants.{DecodeReply, EncodeReply}
use Rattle.munge_tools.specs.Fitting.{FitsDecode, FitsEncode}
use Rattle.munge_tools.specs.Munge.{payload_limit}
use Rattle.munge_tools.specs.RemungeWords.{AskedRemunge, remunge_asked}
use Rattle.munge_tools.specs.Rounds.{RanAll, is_to_open}
use Rattle.munge_tools.specs.TotalsLine.{totals_line}
use Rattle.munge_tools.specs.Wire.{WireSeen}
use Rattle.munge_tools.specs.declared.totals.Totals.{Totals}

-- the first of these replies begins with the frame of this message, which fits, and these follow
pub record ComesFirst (Fits : Message → Type 0) (message : Message)
    (replies later : List (List ℕ)) : Type 0 where
  pub is_message : IsMessage Replies message
  pub fits : Fits message
  pub rest : List ℕ
  pub first : replies ≡ (frame_of message ++ rest) ∷ later

-- these replies are enough for one round, and these follow
pub data FitsRound (decode : Bool) (replies later : List (List ℕ)) : Type 0 where
  -- one, where nothing is to be opened
  one : (made : EncodeSaid) → ComesFirst FitsEncode (EncodeReply made) replies later
      → is_to_open decode made ≡ false → FitsRound decode replies later
  -- two, where the credential is to be opened
  two : (made : EncodeSaid) → (between : List (List ℕ))
      → ComesFirst FitsEncode (EncodeReply made) replies between
      → is_to_open decode made ≡ true
      → (said : DecodeSaid) → ComesFirst FitsDecode (DecodeReply said) between later
      → FitsRound decode replies later

-- they are enough for so many rounds
abbrev pub FitRounds : (decode : Bool) → (count : ℕ) → (replies : List (List ℕ)) → Type 0
FitRounds decode zero replies = Unit {0}
FitRounds decode (suc count) replies =
    (later : List (List ℕ)) × FitsRound decode replies later × FitRounds decode count later

-- remunge has all that it needs
pub record CanRun (words : List Text) (wire : WireSeen) : Type 0 where
  pub asked : AskedRemunge
  pub asks : remunge_asked words ≡ Some asked
  pub within : length asked.payload ≤ payload_limit
  pub replies : List (List ℕ)
  pub told : wire.replies ≡ Some replies
  pub enough : FitRounds asked.decode asked.count replies

-- as many rounds as asked for ran, their totals were printed, and the status is this number: 0
-- where no reply had another status than 0, and 1 where one had
pub record TotalsPrinted (asked : AskedRemunge) (taken taken' : Option (List ℕ))
    (before after : WireSeen) (number : ℕ) : Type 0 where
  pub totals : Totals
  pub ran : RanAll asked before after totals
  pub printed : Appends taken taken' (totals_line totals)
  pub well : totals.failed ≡ 0 → number ≡ 0
  pub with_failures : totals.failed ≢ 0 → number ≡ 1
