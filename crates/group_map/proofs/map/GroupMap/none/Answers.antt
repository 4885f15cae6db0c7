use Rattle.std.proofs.Common.{[], refl}
use Rattle.group_map.specs.Lines.{lines_of}
use Rattle.group_map.proofs.map.GroupMap.none.Goals as goal

pub invariant_of-result : goal.invariant_of-result
unfolding lines_of
invariant_of-result c = ∣ ([], ([], record { users_are = λ number name. refl; lists_are = λ number name. refl })) ∣₁

pub returns : goal.returns
unfolding lines_of
returns c = record { users_are = λ number name. refl; lists_are = λ number name. refl }
