-- What a daemon printed, in two parts.
use Rattle.std.proofs.Common.{◌≡◌, ℕ, Bool, true, false, List, ◌++◌, Option, ◌∙◌, subst}
use Rattle.std.proofs.KnownBytes.{Appends-trans}
use Rattle.std.specs.Io.KnownBytes.{Appends}
use Rattle.byte_io.specs.Counts.{Rose}
use Rattle.munged_files.specs.Ending.{Ending, Errors}
use Rattle.munged_run.specs.Output.{output_of}
use Rattle.munged_run.specs.Serve.{SaidSo, SaidTotals}
use Rattle.munged_run.proofs.TotalsCut.{cut_behind}

module _ (first text : List ℕ) (before between after : Errors)
    (went : Appends before.taken between.taken first) (sound : between.faults ≡ before.faults) where
  so_behind : (printed : Bool) → SaidSo printed (output_of between after) text
      → SaidSo printed (output_of before after) (first ++ text)
  so_behind true it =
      record {
        written = Appends-trans before.taken between.taken after.taken first text went it.written;
        none_failed = it.none_failed ∙ sound;
      }
  so_behind false it =
      record {
        failed = subst (λ n. Rose n after.faults) sound it.failed;
        cut = cut_behind before.taken between.taken after.taken first text went it.cut;
      }

  -- the totals, behind what had been printed
  pub said_behind : (door_failed ticker_failed : Bool) (worn : Option ℕ) (how : Ending)
      → SaidTotals door_failed ticker_failed worn text (output_of between after) how
      → SaidTotals door_failed ticker_failed worn (first ++ text) (output_of before after) how
  said_behind door_failed ticker_failed worn how it =
      record {
        printed = it.printed;
        output = so_behind it.printed it.output;
        how_is = it.how_is;
      }
