-- What a run of munge comes to.
use Rattle.std.specs.Prelude.{◌≡◌, ◌≢◌, ℕ, ◌<◌, ◌≤◌, List, [], ◌∷◌, ◌++◌, length, None, Some, Option}
use Rattle.std.specs.Io.KnownBytes.{Appends}
use Rattle.clap.specs.Words.{Text}
use Rattle.wire_msg.specs.Spelling.{frame_of}
use Rattle.wire_msg.specs.declared.message.EncodeAsk.{EncodeAsk}
use Rattle.wire_msg.specs.declared.message.EncodeSaid.{EncodeSaid}
use Rattle.wire_msg.specs.declared.message.Message.TheVariants.{EncodeReply, EncodeRequest}
use Rattle.munge_tools.specs.Exchange.{Heard, NotHeard}
use Rattle.munge_tools.specs.Fitting.{FitsEncode, FitsEncodeSaid}
use Rattle.munge_tools.specs.InputRead.{IsWholeInput, NoInput}
use Rattle.munge_tools.specs.MungeWords.{AskedMunge, Payload, munge_asked}
use Rattle.munge_tools.specs.MungeWords as payload
use Rattle.munge_tools.specs.Output.{TakesCut}
use Rattle.munge_tools.specs.ReplyRead.{Input}
use Rattle.munge_tools.specs.Things.{Same, Things}
use Rattle.munge_tools.specs.Unheard.{ending_of}
use Rattle.munge_tools.specs.declared.ending.Ending.{Ending}
use Rattle.munge_tools.specs.declared.ending.Ending.TheVariants.{Done, Refused, TooLong, BadWords, Unreached, BadReply, InputFailed, OutputFailed, NoMemory}
use Rattle.munge_tools.specs.declared.exchange.Unheard.{Unheard}

-- the most bytes of a payload
abbrev pub payload_limit : ℕ
payload_limit = 1048576

-- the request that is made of what is asked and of a payload
abbrev pub ask_of : AskedMunge → (payload : List ℕ) → EncodeAsk
ask_of asked payload =
    record {
      cipher = asked.cipher;
      kind = asked.mac;
      ttl = asked.ttl;
      for_uid = asked.for_uid;
      for_gid = asked.for_gid;
      payload = payload;
    }

-- its frame
abbrev pub sealing_frame : AskedMunge → (payload : List ℕ) → List ℕ
sealing_frame asked payload = frame_of (EncodeRequest (ask_of asked payload))

-- this is what is to be sealed, where `same` says that the input is as before
abbrev pub IsPayload : Payload → (same : Type 0) → (before after : Input) → List ℕ → Type 0
IsPayload (payload.text given) same before after bytes = same × (bytes ≡ given)
IsPayload payload.nothing same before after bytes = same × (bytes ≡ [])
IsPayload payload.input same before after bytes = IsWholeInput before after bytes

-- it is so, and not too long
pub record Sealable (asked : AskedMunge) (same : Type 0) (before after : Input)
    (bytes : List ℕ) : Type 0 where
  pub is_payload : IsPayload asked.payload same before after bytes
  pub within : length bytes ≤ payload_limit

-- there is nothing to be sealed, and munge ends so
pub data NoPayload (asked : Payload) (same : Type 0) (before after : Input) (how : Ending)
    : Type 0 where
  -- the text that is given is too long
  long_text : (given : List ℕ) → asked ≡ payload.text given → payload_limit < length given
      → same → how ≡ TooLong → NoPayload asked same before after how
  -- no memory was left for it
  uncopied : same → how ≡ NoMemory → NoPayload asked same before after how
  -- the input was not taken
  no_input : asked ≡ payload.input → NoInput payload_limit same before after how
      → NoPayload asked same before after how

-- a text that is given is too long, or no memory was left for it
abbrev pub TextRefused : (given : List ℕ) → Ending → Type 0
TextRefused given TooLong = payload_limit < length given
TextRefused given NoMemory = Unit {0}
TextRefused given (Done status) = ⊥
TextRefused given (Refused status) = ⊥
TextRefused given BadWords = ⊥
TextRefused given Unreached = ⊥
TextRefused given BadReply = ⊥
TextRefused given InputFailed = ⊥
TextRefused given OutputFailed = ⊥

-- the line of a credential
abbrev pub text_line : (text : List ℕ) → List ℕ
text_line text = text ++ (10 ∷ [])

-- What comes of a fitting reply: the text goes out where it is there, and nothing else.
pub data Answered (said : EncodeSaid) (silent : Type 0) (taken taken' : Option (List ℕ))
    (how : Ending) : Type 0 where
  -- the daemon did not seal
  refused : said.status ≢ 0 → silent → how ≡ Refused said.status
      → Answered said silent taken taken' how
  -- the text was printed
  printed : said.status ≡ 0 → Appends taken taken' (text_line said.text) → how ≡ Done 0
      → Answered said silent taken taken' how
  -- the output took a front of what was to be printed
  unprinted : said.status ≡ 0 → TakesCut taken taken' (text_line said.text)
      → how ≡ OutputFailed
      → Answered said silent taken taken' how

-- What comes of a request.
pub data AskedCame (asked : AskedMunge) (same : Same) (before after : Things) (how : Ending)
    : Type 0 where
  -- there is nothing to be sealed
  no_payload : NoPayload asked.payload same.input before.input after.input how
      → same.out → same.wire → AskedCame asked same before after how
  -- no fitting reply came
  unheard : (bytes : List ℕ) → Sealable asked same.input before.input after.input bytes
      → (why : Unheard)
      → NotHeard FitsEncode asked.socket (sealing_frame asked bytes) before.wire after.wire why
      → same.out → how ≡ ending_of why → AskedCame asked same before after how
  -- one came
  answered : (bytes : List ℕ) → Sealable asked same.input before.input after.input bytes
      → (said : EncodeSaid) → FitsEncodeSaid said
      → Heard asked.socket (sealing_frame asked bytes) before.wire after.wire (EncodeReply said)
      → Answered said same.out before.taken after.taken how
      → AskedCame asked same before after how

-- What munge comes to.
pub data MungeCame (words : List Text) (same : Same) (before after : Things) (how : Ending)
    : Type 0 where
  -- the words are refused
  bad_words : munge_asked words ≡ None → same.input → same.out → same.wire → how ≡ BadWords
      → MungeCame words same before after how
  -- no memory was left to read them
  no_memory : same.input → same.out → same.wire → how ≡ NoMemory
      → MungeCame words same before after how
  -- they ask for something
  asked : (asked : AskedMunge) → munge_asked words ≡ Some asked
      → AskedCame asked same before after how → MungeCame words same before after how
