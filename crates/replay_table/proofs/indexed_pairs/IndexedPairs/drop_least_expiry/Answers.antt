use Rattle.std.proofs.Common.{◌∷◌, [], drop, ap, sym, ◌∙◌}
use Rattle.std.proofs.lemmas.List.{map-append}
use Rattle.replay_table.proofs.GroupLemmas.{pair_of}
use Rattle.replay_table.proofs.SetLemmas.{IsSetOf-removed}
use Rattle.replay_table.proofs.indexed_pairs.IndexedPairs.drop_least_expiry.Goals as goal
use Rattle.replay_table.specs.Groups.{pairs_at, pairs_of}

pub macs-preserved : goal.macs-preserved
macs-preserved g c = record {
  later = c.macs.invariant.later;
  grouped = c.macs.invariant.grouped;
  pairs =
      let expiry = c.in-Some.expiry in
      IsSetOf-removed (pairs_at expiry c.pop.new.self) (pair_of expiry c.in-Some-pop.mac) (pairs_of c.macs.self-inside.by_expiry.entries) _ _
      c.remove.ensures.updates.0
      (rw (map-append (pair_of expiry) c.pop.new.self (c.in-Some-pop.mac ∷ [])) at (rw c.in-Some-pop.ensures.taken at c.macs.invariant.pairs));
}

pub returns-in_default-pop : goal.returns-in_default-pop
returns-in_default-pop g c =
    c.macs.invariant.later ∙ ap (drop 1) (sym c.in-Some.ensures.removal) ∙ ap (drop 1) c.self.view_is
