use Rattle.std.proofs.Common.{◌≡◌, drop}
use Rattle.replay_table.proofs.indexed_pairs.IndexedPairs.drop_least_expiries.Given as goal

abbrev pub invariant-expiries : goal.invariant-expiries
invariant-expiries g l = l.self ≡ drop l.counter l.initial.self
