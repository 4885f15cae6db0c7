-- The list of sockets, as the code sees it.
use Rattle.std.proofs.Common.{◌≡◌, pos, true, false, List, [], ◌∷◌, length, Option, Some, None, option_map, Bor, Vec, Global, refl, sym, ap, ◌∙◌, arith}
use Rattle.toml.specs.Data.{Data, as_array}
use Rattle.toml.specs.View.{view, items_view, array_view}
use Rattle.toml.specs.declared.value.Value.{Value}
use Rattle.option_file.specs.Rules.{is_list_size, list, needed}
use Rattle.option_file.specs.Values.{values_of, list_or_none}
use Rattle.option_file.specs.declared.key.Key.TheVariants as key
use Rattle.option_file.specs.declared.refused.OptionRefused.TheVariants.{Range}

pub length-values : (vs : List Value) → length (values_of (items_view vs)) ≡ length vs
length-values [] = refl
length-values (v ∷ vs) = omega (arith, length-values vs)

-- what the code has of the list at `socket` when it knows its size
pub record Found (found : Option Data) (vs : List Value) : Type 0 where
  pub value : Data
  pub here : found ≡ Some value
  pub array : as_array value ≡ Some (items_view vs)

pub found-list : (found : Option (Bor Value)) (value : Bor Value) (array : Option (Bor (Vec Value Global))) (held : Bor (Vec Value Global))
    → found ≡ Some value → option_map (λ v. array_view v.now) array ≡ as_array (view value.now) → array ≡ Some held
    → Found (option_map (λ v. view v.now) found) held.now.items
found-list found value array held here asked is = record {
  value = view value.now;
  here = ap (option_map (λ v. view v.now)) here;
  array = sym asked ∙ ap (option_map (λ v. array_view v.now)) is;
}

pub list-taken : (found : Option Data) (vs : List Value) → Found found vs → is_list_size (length vs) ≡ true
    → (needed list key.Socket found ≡ None) × (values_of (items_view vs) ≡ list_or_none found)
list-taken found vs is fits =
    (rw (is.here, is.array, length-values vs, fits) refl, rw (is.here, is.array) refl)

pub list-refused : (found : Option Data) (vs : List Value) → Found found vs → is_list_size (length vs) ≡ false
    → needed list key.Socket found ≡ Some (Range key.Socket (pos (length vs)))
list-refused found vs is fits = rw (is.here, is.array, length-values vs, fits) refl
