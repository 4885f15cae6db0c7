use Rattle.std.proofs.Common.{◌∙◌, ap, length}
use Rattle.replay_table.proofs.SetLemmas.{length-IsSetOf}
use Rattle.replay_table.proofs.indexed_pairs.IndexedPairs.len.Goals as goal
use Rattle.replay_table.specs.Groups.{pairs_of}

pub returns : goal.returns
returns g c =
    c.len.ensures.len ∙ length-IsSetOf _ c.self.inside.set.keys c.len.ensures.unique c.self.invariant.pairs
    ∙ ap (λ groups. length (pairs_of groups)) c.self.view_is
