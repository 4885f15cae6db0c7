-- What remunge does again and again: it has a credential made, and opened where that is asked for.
use Rattle.std.specs.Prelude.{◌≡◌, ℕ, ◌+◌, ◌<◌, ◌&&◌, ◌==◌, Bool, true, false, not, if◌then◌else◌, List, [], ◌∷◌, length, Option, count_by}
use Rattle.std.specs.declared.option.Option.TheVariants.{None, Some}
use Rattle.wire_msg.specs.Spelling.{frame_of}
use Rattle.wire_msg.specs.declared.message.DecodeSaid.{DecodeSaid}
use Rattle.wire_msg.specs.declared.message.EncodeAsk.{EncodeAsk}
use Rattle.wire_msg.specs.declared.message.EncodeSaid.{EncodeSaid}
use Rattle.wire_msg.specs.declared.message.Message.TheVariants.{DecodeReply, EncodeReply, EncodeRequest}
use Rattle.munge_tools.specs.Exchange.{Heard, NotHeard}
use Rattle.munge_tools.specs.Fitting.{FitsDecode, FitsDecodeSaid, FitsEncode, FitsEncodeSaid}
use Rattle.munge_tools.specs.MungeWords.{any_id}
use Rattle.munge_tools.specs.RemungeWords.{AskedRemunge}
use Rattle.munge_tools.specs.Unmunge.{opening_frame}
use Rattle.munge_tools.specs.Wire.{WireSeen}
use Rattle.munge_tools.specs.declared.exchange.Unheard.{Unheard}
use Rattle.munge_tools.specs.declared.totals.Totals.{Totals}

-- the request for a credential with this payload, as munge makes it where nothing else is given
abbrev pub usual_ask : (payload : List ℕ) → EncodeAsk
usual_ask payload =
    record { cipher = 1; kind = 1; ttl = 0; for_uid = any_id; for_gid = any_id; payload = payload }

-- its frame
abbrev pub making_frame : (payload : List ℕ) → List ℕ
making_frame payload = frame_of (EncodeRequest (usual_ask payload))

-- the replies of one round: to the encode request, and to the decode request if there was one
pub record Round : Type 0 where
  pub made : EncodeSaid
  pub opened : Option DecodeSaid

-- the credential was made and is to be opened
abbrev pub is_to_open : (decode : Bool) → EncodeSaid → Bool
is_to_open decode made = decode && (made.status == 0)

-- the reply to the encode request was read
pub record Made (asked : AskedRemunge) (before after : WireSeen) (made : EncodeSaid)
    : Type 0 where
  pub fits : FitsEncodeSaid made
  pub heard : Heard asked.socket (making_frame asked.payload) before after (EncodeReply made)

-- so was the one to the decode request, where there was one
abbrev pub Opened : (asked : AskedRemunge) → (made : EncodeSaid) → (before after : WireSeen)
    → Option DecodeSaid → Type 0
Opened asked made before after None = (is_to_open asked.decode made ≡ false) × (after ≡ before)
Opened asked made before after (Some said) =
    (is_to_open asked.decode made ≡ true) × FitsDecodeSaid said
    × Heard asked.socket (opening_frame made.text) before after (DecodeReply said)

-- one round
pub record RoundRan (asked : AskedRemunge) (before after : WireSeen) (round : Round)
    : Type 0 where
  pub between : WireSeen
  pub made : Made asked before between round.made
  pub opened : Opened asked round.made between after round.opened

-- these rounds one after the other, the latest first
abbrev pub RoundsRan : (asked : AskedRemunge) → (before : WireSeen) → List Round
    → (after : WireSeen) → Type 0
RoundsRan asked before [] after = after ≡ before
RoundsRan asked before (round ∷ earlier) after =
    (between : WireSeen) × RoundsRan asked before earlier between
    × RoundRan asked between after round

-- What was exchanged in a round that stopped, and why.
pub data RoundStopped (asked : AskedRemunge) (before after : WireSeen) (why : Unheard)
    : Type 0 where
  -- no fitting reply came to the encode request
  unmade : NotHeard FitsEncode asked.socket (making_frame asked.payload) before after why
      → RoundStopped asked before after why
  -- none came to the decode request
  unopened : (between : WireSeen) → (made : EncodeSaid) → Made asked before between made
      → is_to_open asked.decode made ≡ true
      → NotHeard FitsDecode asked.socket (opening_frame made.text) between after why
      → RoundStopped asked before after why

-- these rounds, of which there are fewer than asked for, and then one that stopped
pub record Stops (asked : AskedRemunge) (before after : WireSeen) (why : Unheard)
    : Type 0 where
  pub rounds : List Round
  pub between : WireSeen
  pub ran : RoundsRan asked before rounds between
  pub fewer : length rounds < asked.count
  pub stopped : RoundStopped asked between after why

-- in this round a credential was made
abbrev pub is_made : Round → Bool
is_made round = round.made.status == 0

-- there was a reply to a decode request, of which this holds
abbrev pub has_reply : (DecodeSaid → Bool) → Option DecodeSaid → Bool
has_reply test None = false
has_reply test (Some said) = test said

-- in this round one was opened
abbrev pub is_opened : Round → Bool
is_opened round = has_reply (λ said. said.status == 0) round.opened

-- in this round none was made
abbrev pub is_unmade : Round → Bool
is_unmade round = not (round.made.status == 0)

-- in this round one was made and not opened, though that was asked for
abbrev pub is_unopened : Round → Bool
is_unopened round = has_reply (λ said. not (said.status == 0)) round.opened

-- the totals are the counts of the replies of these rounds
pub record Counts (rounds : List Round) (totals : Totals) : Type 0 where
  pub encoded : totals.encoded ≡ count_by is_made rounds
  pub decoded : totals.decoded ≡ count_by is_opened rounds
  pub failed : totals.failed ≡ count_by is_unmade rounds + count_by is_unopened rounds

-- how many this is, of one that is or is not
abbrev pub one_if : Bool → ℕ
one_if is = if is then 1 else 0

-- the replies of this round are counted
pub record Adds (round : Round) (totals totals' : Totals) : Type 0 where
  pub encoded : totals'.encoded ≡ totals.encoded + one_if (is_made round)
  pub decoded : totals'.decoded ≡ totals.decoded + one_if (is_opened round)
  pub failed : totals'.failed
      ≡ totals.failed + (one_if (is_unmade round) + one_if (is_unopened round))

-- one round ran and is counted
pub record RoundAdds (asked : AskedRemunge) (before after : WireSeen) (totals totals' : Totals)
    : Type 0 where
  pub round : Round
  pub ran : RoundRan asked before after round
  pub adds : Adds round totals totals'

-- so many rounds ran and are counted
pub record SoFar (asked : AskedRemunge) (before after : WireSeen) (done : ℕ) (totals : Totals)
    : Type 0 where
  pub rounds : List Round
  pub ran : RoundsRan asked before rounds after
  pub all : length rounds ≡ done
  pub counts : Counts rounds totals

-- as many rounds as are asked for ran and are counted
abbrev pub RanAll : (asked : AskedRemunge) → (before after : WireSeen) → Totals → Type 0
RanAll asked before after totals = SoFar asked before after asked.count totals
