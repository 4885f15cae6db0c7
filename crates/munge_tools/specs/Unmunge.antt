-- What a run of unmunge comes to.
use Rattle.std.specs.Prelude.{◌≡◌, ℕ, ◌≤◌, Bool, false, true, List, length, None, Some, Option}
use Rattle.std.specs.Io.KnownBytes.{Appends}
use Rattle.clap.specs.Words.{Text}
use Rattle.wire_msg.specs.FrameHead.{body_limit}
use Rattle.wire_msg.specs.Spelling.{frame_of}
use Rattle.wire_msg.specs.declared.message.DecodeSaid.{DecodeSaid}
use Rattle.wire_msg.specs.declared.message.Message.TheVariants.{DecodeReply, DecodeRequest}
use Rattle.munge_tools.specs.Exchange.{Heard, NotHeard}
use Rattle.munge_tools.specs.Fitting.{FitsDecode, FitsDecodeSaid}
use Rattle.munge_tools.specs.InputRead.{IsWholeInput, NoInput}
use Rattle.munge_tools.specs.Output.{TakesCut}
use Rattle.munge_tools.specs.Printed.{printed_text}
use Rattle.munge_tools.specs.ReplyRead.{Input}
use Rattle.munge_tools.specs.Things.{Same, Things}
use Rattle.munge_tools.specs.Unheard.{ending_of}
use Rattle.munge_tools.specs.UnmungeWords.{AskedUnmunge, unmunge_asked}
use Rattle.munge_tools.specs.declared.ending.Ending.{Ending}
use Rattle.munge_tools.specs.declared.ending.Ending.TheVariants.{Done, BadWords, OutputFailed, NoMemory}
use Rattle.munge_tools.specs.declared.exchange.Unheard.{Unheard}

-- the frame of a request to open the credential with this text
abbrev pub opening_frame : (text : List ℕ) → List ℕ
opening_frame text = frame_of (DecodeRequest text)

-- this is the text of the input, which is not too long
pub record IsText (before after : Input) (text : List ℕ) : Type 0 where
  pub whole : IsWholeInput before after text
  pub within : length text ≤ body_limit

-- What comes of a fitting reply, where `silent` says that the output is as before.
pub data Shown (said : DecodeSaid) (no_output : Bool) (silent : Type 0)
    (taken taken' : Option (List ℕ)) (how : Ending) : Type 0 where
  -- nothing is to be printed
  hidden : no_output ≡ true → silent → how ≡ Done said.status
      → Shown said no_output silent taken taken' how
  -- it was printed
  printed : no_output ≡ false → Appends taken taken' (printed_text said)
      → how ≡ Done said.status → Shown said no_output silent taken taken' how
  -- the output took a front of what was to be printed
  unprinted : no_output ≡ false → TakesCut taken taken' (printed_text said)
      → how ≡ OutputFailed → Shown said no_output silent taken taken' how
  -- no memory was left for what was to be printed
  unmade : no_output ≡ false → silent → how ≡ NoMemory
      → Shown said no_output silent taken taken' how

-- What comes of a request.
pub data OpeningCame (asked : AskedUnmunge) (same : Same) (before after : Things) (how : Ending)
    : Type 0 where
  -- the input was not taken
  no_text : NoInput body_limit same.input before.input after.input how
      → same.out → same.wire → OpeningCame asked same before after how
  -- no fitting reply came
  unheard : (text : List ℕ) → IsText before.input after.input text → (why : Unheard)
      → NotHeard FitsDecode asked.socket (opening_frame text) before.wire after.wire why
      → same.out → how ≡ ending_of why → OpeningCame asked same before after how
  -- one came
  answered : (text : List ℕ) → IsText before.input after.input text
      → (said : DecodeSaid) → FitsDecodeSaid said
      → Heard asked.socket (opening_frame text) before.wire after.wire (DecodeReply said)
      → Shown said asked.no_output same.out before.taken after.taken how
      → OpeningCame asked same before after how

-- What unmunge comes to.
pub data UnmungeCame (words : List Text) (same : Same) (before after : Things) (how : Ending)
    : Type 0 where
  -- the words are refused
  bad_words : unmunge_asked words ≡ None → same.input → same.out → same.wire → how ≡ BadWords
      → UnmungeCame words same before after how
  -- no memory was left to read them
  no_memory : same.input → same.out → same.wire → how ≡ NoMemory
      → UnmungeCame words same before after how
  -- they ask for something
  asked : (asked : AskedUnmunge) → unmunge_asked words ≡ Some asked
      → OpeningCame asked same before after how → UnmungeCame words same before after how
