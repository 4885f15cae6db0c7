-- What `munged_daemon` comes to.
use Rattle.std.specs.Prelude.{◌≡◌, ℕ, ◌⊎◌, Bool, true, false, List}
use Rattle.std.specs.declared.option.Option.TheVariants.{None, Some}
use Rattle.munge_types.specs.declared.history.Event.{Event}
use Rattle.worker_pool.specs.declared.tally.Tally.{Tally}
use Rattle.munged_files.specs.Ending.{Ending}
use Rattle.munged_files.specs.Ending as ending
use Rattle.munged_run.specs.ExerciseWords.{exercise_of}
use Rattle.munged_run.specs.LoadServed.{IsHistoryOf, IsLoadServed}
use Rattle.munged_run.specs.Output.{Failed, NothingServed, Output, Printed}
use Rattle.munged_run.specs.Program.{Given}
use Rattle.munged_run.specs.ServeWords.{serve_of}
use Rattle.munged_run.specs.Stop.{StopCame}
use Rattle.munged_run.specs.StopWords.{stop_of}
use Rattle.munged_run.specs.Totals.{totals_line}
use Rattle.munged_run.specs.Wire.{WireSeen}
use Rattle.munged_run.specs.declared.exercise_words.AskedExercise.{AskedExercise}

-- How the program ends where totals were to be printed, and `wanted` says that a job wanted memory.
pub data AfterTotals (tally : Tally) (kept : ℕ) (wanted : Bool) (out : Output) (how : Ending)
    : Type 0 where
  printed : wanted ≡ false → Printed out (totals_line tally kept) → how ≡ ending.done
      → AfterTotals tally kept wanted out how
  unprinted : wanted ≡ false → Failed out → how ≡ ending.output_failed
      → AfterTotals tally kept wanted out how
  -- whether they were printed or a write failed
  wanting : wanted ≡ true → Printed out (totals_line tally kept) ⊎ Failed out
      → how ≡ ending.no_memory → AfterTotals tally kept wanted out how

-- How the program ends after a load was served, of which this is the closing history. Where no job
-- wanted memory, it is the history of the load.
pub record AfterLoad (asked : AskedExercise) (history : List Event) (tally : Tally) (kept : ℕ)
    (out : Output) (how : Ending) : Type 0 where
  pub wanted : Bool
  pub served : IsLoadServed asked history tally kept wanted
  pub whole : wanted ≡ false → IsHistoryOf asked.credentials asked.number history
  pub told : AfterTotals tally kept wanted out how

-- What came of a load that was asked for, where `silent` says that the output is as before.
pub data ExerciseCame (asked : AskedExercise) (tally : Tally) (kept : ℕ) (silent : Type 0)
    (out : Output) (how : Ending) : Type 0 where
  -- there was no memory before the first job
  unserved : silent → NothingServed tally kept → how ≡ ending.no_memory
      → ExerciseCame asked tally kept silent out how
  served : (history : List Event) → AfterLoad asked history tally kept out how
      → ExerciseCame asked tally kept silent out how

-- What the program comes to, where `silent` says that the output is as before, `untouched` that the
-- hall is, and `serves` what serving by an option file of that path comes to.
pub data DaemonCame (given : Given) (tally : Tally) (kept : ℕ) (silent untouched : Type 0)
    (serves : (config : List ℕ) → Ending → Type 0) (out : Output) (before after : WireSeen)
    (how : Ending) : Type 0 where
  -- the words ask for nothing
  no_command : exercise_of given.words ≡ None → stop_of given.words ≡ None
      → serve_of given.words ≡ None → silent → untouched
      → NothingServed tally kept → how ≡ ending.no_command
      → DaemonCame given tally kept silent untouched serves out before after how
  -- they ask for a load
  exercise : (asked : AskedExercise) → exercise_of given.words ≡ Some asked → untouched
      → ExerciseCame asked tally kept silent out how
      → DaemonCame given tally kept silent untouched serves out before after how
  -- they ask that a daemon stops
  stop : (config : List ℕ) → stop_of given.words ≡ Some config → silent
      → NothingServed tally kept → StopCame given.files config untouched before after how
      → DaemonCame given tally kept silent untouched serves out before after how
  -- they ask that it serves; the hall's wire is as before
  serve : (config : List ℕ) → serve_of given.words ≡ Some config → after ≡ before
      → serves config how
      → DaemonCame given tally kept silent untouched serves out before after how
