-- How an answer stands to what a file says and to its refusal.
use Rattle.std.specs.Prelude.{◌≡◌, ◌≢◌}
use Rattle.std.specs.declared.option.Option.{Option}
use Rattle.std.specs.declared.option.Option.TheVariants.{None, Some}
use Rattle.std.specs.declared.result.Result.{Result}
use Rattle.std.specs.declared.result.Result.TheVariants.{Ok, Err}
use Rattle.option_file.specs.declared.refused.OptionRefused.{OptionRefused}
use Rattle.option_file.specs.declared.refused.OptionRefused.TheVariants.{NoMemory}

-- nothing is refused and the answer, seen by `seen`, is what is said; or the answer is the refusal,
-- or want of memory, which says nothing of the file
abbrev pub Gives : {A B : Type 0} → (seen : A → B) → (refusal : Option OptionRefused) → (said : B)
    → Result A OptionRefused → Type 0
Gives seen refusal said (Ok given) = (refusal ≡ None) × (seen given ≡ said)
Gives seen refusal said (Err refused) = refused ≢ NoMemory → refusal ≡ Some refused
