use Rattle.std.proofs.lemmas.List.{drop-replicate}
use Rattle.munge_types.proofs.Padding.{IsFilled-append}
use Rattle.munge_types.proofs.mac_bytes.MacBytes.of.Goals as goal

pub invariant_of-result : goal.invariant_of-result
invariant_of-result c = rw c.copy_from_slice.ensures.after (IsFilled-append _ _ c.requires (drop-replicate _ 64 0))
