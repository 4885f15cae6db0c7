-- Numbers beside names.
use Rattle.std.proofs.Common.{◌≡◌, ℕ, nat_eq, Bool, true, false, ◌&&◌, ◌||◌, List, [], ◌∷◌, map, refl, sym, ◌∙◌, ap}
use Rattle.std.proofs.Math.Bool.{and-false}
use Rattle.std.proofs.lemmas.List.Folds.{list_any-append}
use Rattle.std.specs.List.{list_any}
use Rattle.group_map.specs.GroupMap.{listings, stands_beside}
use Rattle.group_map.specs.Membership.{name_eq}

-- the number of each of a list of names
pub stands_beside-map : (n : ℕ) (x : List ℕ) (number : ℕ) (names : List (List ℕ))
    → stands_beside n x (map (λ name. (number, name)) names) ≡ nat_eq n number && list_any (name_eq x) names
stands_beside-map n x number [] = sym (and-false (nat_eq n number))
stands_beside-map n x number (name ∷ names) =
    ap (λ t. (nat_eq n number && name_eq x name) || t) (stands_beside-map n x number names)
    ∙ apart (nat_eq n number) (name_eq x name) (list_any (name_eq x) names)
  where
    apart : (a b c : Bool) → (a && b) || (a && c) ≡ a && (b || c)
    apart true b c = refl
    apart false b c = refl

-- some group has the number and lists the name
pub stands_beside-listings : (n : ℕ) (x : List ℕ) (groups : List (ℕ × List (List ℕ)))
    → stands_beside n x (listings groups) ≡ list_any (λ group. nat_eq n group.0 && list_any (name_eq x) group.1) groups
stands_beside-listings n x [] = refl
stands_beside-listings n x (group ∷ groups) =
    list_any-append (λ pair. nat_eq n pair.0 && name_eq x pair.1) (map (λ name. (group.0, name)) group.1) (listings groups)
    ∙ (λ i. stands_beside-map n x group.0 group.1 i || stands_beside-listings n x groups i)
