-- What a value has where its rule is not broken.
use Rattle.std.proofs.Common.{◌≡◌, ℕ, ◌≤◌, pos, negsuc, List, [], ◌∷◌, nat_le, Option, Some, None, refl, inl, inr}
use Rattle.std.proofs.lemmas.Bool.{cases_Bool, leb-true}
use Rattle.std.specs.List.{AllByRecursion}
use Rattle.toml.specs.Data.{Data, integer}
use Rattle.option_file.specs.Rules.{allowed, first_of, needed, whole}
use Rattle.option_file.specs.Values.{whole_or}
use Rattle.option_file.specs.declared.key.Key.{Key}
use Rattle.option_file.specs.declared.refused.OptionRefused.{OptionRefused}
use Rattle.option_file.specs.declared.refused.OptionRefused.TheVariants.{Range, Wrong, Missing}

pub refused-none : {A : Type 0} (refused : OptionRefused) → ◌≡◌ {A = Option OptionRefused} (Some refused) None → A
refused-none refused same = absurd (cc)

-- where no refusal stands in a list, none is its first and none stands behind
pub first_of-none : (refusal : Option OptionRefused) (more : List (Option OptionRefused)) → first_of (refusal ∷ more) ≡ None → (refusal ≡ None) × (first_of more ≡ None)
first_of-none None more none = (refl, none)
first_of-none (Some refused) more none = refused-none refused none

-- where no refusal is the first of a list, there is none in it
pub all-none : (refusals : List (Option OptionRefused)) → first_of refusals ≡ None → AllByRecursion (λ refusal. refusal ≡ None) refusals
all-none [] none = tt
all-none (refusal ∷ refusals) none =
    let parts = first_of-none refusal refusals none in
    (parts.0, all-none refusals parts.1)

pub within-none : (low high n : ℕ) (key : Key) → whole low high key (integer (pos n)) ≡ None → (low ≤ n) × (n ≤ high)
within-none low high n key none =
    elim (cases_Bool (nat_le low n)) [
      | inl above ↦ elim (cases_Bool (nat_le n high)) [
        | inl below ↦ (leb-true low n above, leb-true n high below)
        | inr below ↦ refused-none (Range key (pos n)) (rw (above, below) at none)
      ]
      | inr above ↦ refused-none (Range key (pos n)) (rw above at none)
    ]

pub whole-within : (low high usual : ℕ) (key : Key) (found : Option Data) → low ≤ usual → usual ≤ high → allowed (whole low high) key found ≡ None
    → (low ≤ whole_or usual found) × (whole_or usual found ≤ high)
whole-within low high usual key None above below none = (above, below)
whole-within low high usual key (Some (integer (pos n))) above below none = within-none low high n key none
whole-within low high usual key (Some (integer (negsuc n))) above below none = refused-none (Range key (negsuc n)) none
whole-within low high usual key (Some other) above below none = refused-none (Wrong key) none

-- a whole number that has to be there is at most the greatest
pub needed-within : (high : ℕ) (key : Key) (found : Option Data) → needed (whole 0 high) key found ≡ None → whole_or 0 found ≤ high
needed-within high key None none = refused-none (Missing key) none
needed-within high key (Some (integer (pos n))) none = (within-none 0 high n key none).1
needed-within high key (Some (integer (negsuc n))) none = refused-none (Range key (negsuc n)) none
needed-within high key (Some other) none = refused-none (Wrong key) none
