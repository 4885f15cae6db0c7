-- What the command `check` comes to, from what it called.
use Rattle.std.proofs.Common.{◌≡◌, ◌≢◌, ℕ, ◌<◌, List, [], ◌++◌, length, take, drop, Option, Some, refl, sym, ap, ◌∙◌, arith, take-append-drop}
use Rattle.std.proofs.lemmas.List.{append-nil, length-take}
use Rattle.session_core.specs.SessionRan.{IsProperPrefix}
use Rattle.option_file.specs.Refusals.{first_refusal}
use Rattle.option_file.specs.declared.refused.OptionRefused.{OptionRefused}
use Rattle.option_file.specs.declared.refused.OptionRefused.TheVariants as refused
use Rattle.byte_io.specs.Files.{ReadsFile}
use Rattle.munged_run.specs.Check.{GivesNoOptions, options_room}
use Rattle.munged_run.specs.Check as gives
use Rattle.munged_files.specs.Ending.{ending_by}

-- fewer bytes than all are a proper prefix
pub proper_front : (n : ℕ) (whole : List ℕ) → n < length whole → IsProperPrefix (take n whole) whole
proper_front n whole fewer =
    record {
      rest = drop n whole;
      whole_is = sym (take-append-drop n whole);
      some_rest = λ none. all_taken none;
    }
  where
    all_taken : drop n whole ≡ [] → ⊥
    all_taken none =
        let same : take n whole ≡ whole =
        sym (append-nil (take n whole)) ∙ ap (λ r. take n whole ++ r) (sym none)
        ∙ take-append-drop n whole in
        omega (arith, fewer, ap length same, length-take n whole)

-- an option file is refused, or there was no memory for it
pub no_options_by : (files : Option (List (List ℕ × List ℕ))) (name bytes : List ℕ)
    (why : OptionRefused) → ReadsFile files name options_room bytes
    → (why ≢ refused.NoMemory → first_refusal bytes ≡ Some why)
    → GivesNoOptions files name (ending_by why)
no_options_by files name bytes refused.NoMemory reads first = gives.no_memory refl
no_options_by files name bytes (refused.TooLong size) reads first =
    gives.refused bytes reads (refused.TooLong size) (first (λ same. cc)) refl
no_options_by files name bytes refused.NotToml reads first =
    gives.refused bytes reads refused.NotToml (first (λ same. cc)) refl
no_options_by files name bytes (refused.Unknown key) reads first =
    gives.refused bytes reads (refused.Unknown key) (first (λ same. cc)) refl
no_options_by files name bytes (refused.Missing key) reads first =
    gives.refused bytes reads (refused.Missing key) (first (λ same. cc)) refl
no_options_by files name bytes (refused.Wrong key) reads first =
    gives.refused bytes reads (refused.Wrong key) (first (λ same. cc)) refl
no_options_by files name bytes (refused.Range key number) reads first =
    gives.refused bytes reads (refused.Range key number) (first (λ same. cc)) refl
no_options_by files name bytes (refused.Twice at) reads first =
    gives.refused bytes reads (refused.Twice at) (first (λ same. cc)) refl
