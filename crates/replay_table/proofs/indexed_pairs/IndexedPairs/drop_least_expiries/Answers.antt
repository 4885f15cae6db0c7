use Rattle.std.proofs.Common.{drop, ap, ◌∙◌}
use Rattle.std.proofs.lemmas.List.{drop-drop}
use Rattle.replay_table.proofs.indexed_pairs.IndexedPairs.drop_least_expiries.Goals as goal

pub expiries-preserved : goal.expiries-preserved
expiries-preserved g c = c.drop_least_expiry.ensures ∙ ap (drop 1) c.expiries.invariant ∙ drop-drop 1 c.expiries.counter c.args.self.now
