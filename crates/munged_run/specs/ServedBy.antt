-- What a load comes to that was asked for and served.
use Rattle.std.specs.Prelude.{◌≡◌, false, List}
use Rattle.munge_types.specs.declared.history.Event.{Event}
use Rattle.munged_run.specs.LoadServed.{IsHistoryOf, IsLoadServed}
use Rattle.munged_run.specs.declared.exercise.LoadEnd.{LoadEnd}
use Rattle.munged_run.specs.declared.exercise_words.AskedExercise.{AskedExercise}

-- it was served, and where no job wanted memory the closing history is that of the load
pub record IsServedBy (asked : AskedExercise) (end : LoadEnd) : Type 0 where
  pub history : List Event
  pub served : IsLoadServed asked history end.tally end.kept end.wanted
  pub whole : end.wanted ≡ false → IsHistoryOf asked.credentials asked.number history
