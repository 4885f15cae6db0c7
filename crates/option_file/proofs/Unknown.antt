-- The keys of a table ascend, so the first unknown one that is met is the first in byte order.
use Rattle.std.proofs.Common.{◌≡◌, ℕ, List, [], ◌∷◌, Option, Some, None, Less, String, Global, string_bytes, nat_cmp, true, false, refl, inl, inr}
use Rattle.std.proofs.lemmas.Bool.{cases_Bool}
use Rattle.std.proofs.lemmas.Map.Keys.{sorted_tail}
use Rattle.std.specs.Cmp.Lexicographic.{slice_cmp}
use Rattle.std.specs.List.{AllByRecursion}
use Rattle.std.specs.List.Sorted.{IsStrictlySortedBy}
use Rattle.std.specs.Map.{keys_of}
use Rattle.std.specs.Ordering.{is_lt}
use Rattle.std.specs.String.{string_cmp}
use Rattle.toml.specs.View.{members_view}
use Rattle.toml.proofs.Views.{Entry}
use Rattle.option_file.specs.KnownKeys.{is_known, earlier, first_unknown, unknown_refusal}
use Rattle.option_file.specs.declared.refused.OptionRefused.TheVariants.{Unknown}
use Rattle.option_file.specs.declared.known_keys.Place.{Place}

earlier-both : (key other : List ℕ) (rest : Option (List ℕ)) → slice_cmp nat_cmp key other ≡ Less → earlier key rest ≡ Some key → earlier key (earlier other rest) ≡ Some key
earlier-both key other None below first = rw below refl
earlier-both key other (Some third) below first =
    elim (cases_Bool (is_lt (slice_cmp nat_cmp other third))) [
      | inl sooner ↦ rw (sooner, below) refl
      | inr later ↦ rw later first
    ]

earlier-all : (at : Place) (key : String Global) (entries : List Entry) → AllByRecursion (λ y. string_cmp key y ≡ Less) (keys_of entries)
    → earlier (string_bytes key) (first_unknown at (members_view entries)) ≡ Some (string_bytes key)
earlier-all at key [] below = refl
earlier-all at key (e ∷ entries) below =
    let first = earlier-all at key entries below.1 in
    elim (cases_Bool (is_known at (string_bytes e.0))) [
      | inl known ↦ rw known first
      | inr unknown ↦ rw unknown (earlier-both (string_bytes key) (string_bytes e.0) (first_unknown at (members_view entries)) below.0 first)
    ]

pub first_unknown-met : (at : Place) (e : Entry) (entries : List Entry) → IsStrictlySortedBy string_cmp (keys_of (e ∷ entries)) → is_known at (string_bytes e.0) ≡ false
    → first_unknown at (members_view (e ∷ entries)) ≡ Some (string_bytes e.0)
unfolding IsStrictlySortedBy
first_unknown-met at e entries sorted unknown = rw unknown (earlier-all at e.0 entries sorted.0)

pub refusal-met : (at : Place) (before all after : List Entry) (e : Entry) → before ≡ e ∷ after → first_unknown at (members_view before) ≡ first_unknown at (members_view all)
    → IsStrictlySortedBy string_cmp (keys_of before) → is_known at (string_bytes e.0) ≡ false → unknown_refusal at (members_view all) ≡ Some (Unknown (string_bytes e.0))
refusal-met at before all after e stepped same sorted unknown =
    rw (← same, stepped, first_unknown-met at e after (rw stepped at sorted) unknown) refl

pub first_unknown-step : (at : Place) (before all after : List Entry) (e : Entry) → before ≡ e ∷ after → first_unknown at (members_view before) ≡ first_unknown at (members_view all)
    → is_known at (string_bytes e.0) ≡ true → first_unknown at (members_view after) ≡ first_unknown at (members_view all)
first_unknown-step at before all after e stepped same is = rw is at (rw stepped at same)

pub sorted-step : (before after : List Entry) (e : Entry) → before ≡ e ∷ after → IsStrictlySortedBy string_cmp (keys_of before) → IsStrictlySortedBy string_cmp (keys_of after)
sorted-step before after e stepped sorted = sorted_tail string_cmp e.0 (keys_of after) (rw stepped at sorted)
