-- What ties groups of pairs to a set of pairs.
use Rattle.std.specs.Prelude.{◌≡◌, ℕ, List}
use Rattle.std.specs.List.{list_any, IsDistinct}
use Rattle.munge_types.specs.Pair.{pair_eq}
use Rattle.munge_types.specs.declared.pair.Pair.{Pair}
use Rattle.replay_table.specs.Groups.{pairs_of, IsGrouped}

-- the set holds these pairs and no other, and none of them stands twice
pub record IsSetOf (pairs set : List Pair) : Type 0 where
  pub once : IsDistinct pair_eq pairs
  pub same : (pair : Pair) → list_any (pair_eq pair) set ≡ list_any (pair_eq pair) pairs

-- the groups and the set hold the same pairs
pub record HoldTheSame (groups : List (ℕ × List (List ℕ))) (set : List Pair) : Type 0 where
  pub grouped : IsGrouped groups
  pub pairs : IsSetOf (pairs_of groups) set
