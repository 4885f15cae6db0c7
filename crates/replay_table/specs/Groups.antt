-- Pairs in groups: for each expiry, the least first, the MACs that expire then.
use Rattle.std.specs.Prelude.{ℕ, ◌<◌, List, [], ◌∷◌, ◌++◌, length, map}
use Rattle.std.specs.List.{AllByRecursion, flat_map}
use Rattle.std.specs.List.Sorted.{IsPermutation, IsStrictlySortedBy}
use Rattle.std.specs.Map.{keys_of}
use Rattle.std.specs.Ordering.{nat_cmp}
use Rattle.munge_types.specs.Purge.{expiries_below}
use Rattle.munge_types.specs.declared.pair.Pair.{Pair}

-- the pairs with this expiry and these MACs
abbrev pub pairs_at : (expiry : ℕ) → List (List ℕ) → List Pair
pairs_at expiry macs = map (λ mac. record { expiry = expiry; mac = mac }) macs

-- the pairs of the groups, in their order
abbrev pub pairs_of : List (ℕ × List (List ℕ)) → List Pair
pairs_of groups = flat_map (λ group. pairs_at group.0 group.1) groups

-- how many distinct expiries of theirs are below a bound
abbrev pub expiries_under : (bound : ℕ) → List (ℕ × List (List ℕ)) → ℕ
expiries_under bound groups = expiries_below bound (pairs_of groups)

-- each group has a MAC, and a later expiry than those before it
pub record IsGrouped (groups : List (ℕ × List (List ℕ))) : Type 0 where
  pub rising : IsStrictlySortedBy nat_cmp (keys_of groups)
  pub filled : AllByRecursion (λ group. 0 < length group.1) groups

-- the new groups have the pairs of the old ones and this pair, in any order
abbrev pub AddsPair : (old new : List (ℕ × List (List ℕ))) → Pair → Type 0
AddsPair old new pair = IsPermutation (pairs_of old ++ pair ∷ []) (pairs_of new)
