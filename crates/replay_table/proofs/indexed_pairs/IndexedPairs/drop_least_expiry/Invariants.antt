use Rattle.std.proofs.Common.{◌≡◌, ◌++◌, length}
use Rattle.replay_table.proofs.indexed_pairs.IndexedPairs.drop_least_expiry.Given as goal
use Rattle.replay_table.specs.Groups.{pairs_at, pairs_of, IsGrouped}
use Rattle.replay_table.specs.IndexedPairs.{IsSetOf}

-- the set holds the MACs that are left of the expiry, and the later groups, which stay
abbrev pub invariant-macs : goal.invariant-macs
invariant-macs g l = record {
  later : l.self-inside.by_expiry.entries ≡ l.initial.self-inside.by_expiry.entries;
  grouped : IsGrouped l.self-inside.by_expiry.entries;
  pairs : IsSetOf (pairs_at l.expiry l.macs ++ pairs_of l.self-inside.by_expiry.entries) l.self-inside.set.keys;
}

abbrev pub decreases-macs : goal.decreases-macs
decreases-macs g l = length l.macs
