-- What a run of remunge comes to.
use Rattle.std.specs.Prelude.{◌≡◌, ◌≢◌, ℕ, ◌<◌, List, length, None, Some, Option}
use Rattle.std.specs.Io.KnownBytes.{Appends}
use Rattle.clap.specs.Words.{Text}
use Rattle.munge_tools.specs.Munge.{payload_limit}
use Rattle.munge_tools.specs.Output.{TakesCut}
use Rattle.munge_tools.specs.RemungeWords.{AskedRemunge, remunge_asked}
use Rattle.munge_tools.specs.Rounds.{RanAll, Stops}
use Rattle.munge_tools.specs.TotalsLine.{totals_line}
use Rattle.munge_tools.specs.Unheard.{ending_of}
use Rattle.munge_tools.specs.Wire.{WireSeen}
use Rattle.munge_tools.specs.declared.ending.Ending.{Ending}
use Rattle.munge_tools.specs.declared.ending.Ending.TheVariants.{Done, TooLong, BadWords, OutputFailed, NoMemory}
use Rattle.munge_tools.specs.declared.exchange.Unheard.{Unheard}
use Rattle.munge_tools.specs.declared.totals.Totals.{Totals}

-- how remunge ends by its totals: well where no reply had another status than 0
pub data EndsBy (totals : Totals) (how : Ending) : Type 0 where
  well : totals.failed ≡ 0 → how ≡ Done 0 → EndsBy totals how
  with_failures : totals.failed ≢ 0 → how ≡ Done 1 → EndsBy totals how

-- What comes of the totals, where `silent` says that the output is as before.
pub data Told (totals : Totals) (silent : Type 0) (taken taken' : Option (List ℕ))
    (how : Ending) : Type 0 where
  -- they were printed
  printed : Appends taken taken' (totals_line totals) → EndsBy totals how
      → Told totals silent taken taken' how
  -- the output took a front of what was to be printed
  unprinted : TakesCut taken taken' (totals_line totals) → how ≡ OutputFailed
      → Told totals silent taken taken' how
  -- no memory was left for their line
  untold : silent → how ≡ NoMemory → Told totals silent taken taken' how

-- What comes of what is asked for, where `silent` says that the output is as before, and `still`
-- that the wire is.
pub data MakingCame (asked : AskedRemunge) (silent still : Type 0)
    (taken taken' : Option (List ℕ)) (before after : WireSeen) (how : Ending) : Type 0 where
  -- the payload is too long
  long_text : payload_limit < length asked.payload → silent → still → how ≡ TooLong
      → MakingCame asked silent still taken taken' before after how
  -- at some round no fitting reply came
  stopped : (why : Unheard) → Stops asked before after why → silent → how ≡ ending_of why
      → MakingCame asked silent still taken taken' before after how
  -- as many rounds ran as were asked for
  ran : (totals : Totals) → RanAll asked before after totals
      → Told totals silent taken taken' how
      → MakingCame asked silent still taken taken' before after how

-- What remunge comes to.
pub data RemungeCame (words : List Text) (silent still : Type 0)
    (taken taken' : Option (List ℕ)) (before after : WireSeen) (how : Ending) : Type 0 where
  -- the words are refused
  bad_words : remunge_asked words ≡ None → silent → still → how ≡ BadWords
      → RemungeCame words silent still taken taken' before after how
  -- no memory was left to read them
  unread : silent → still → how ≡ NoMemory
      → RemungeCame words silent still taken taken' before after how
  -- they ask for something
  asked : (asked : AskedRemunge) → remunge_asked words ≡ Some asked
      → MakingCame asked silent still taken taken' before after how
      → RemungeCame words silent still taken taken' before after how
