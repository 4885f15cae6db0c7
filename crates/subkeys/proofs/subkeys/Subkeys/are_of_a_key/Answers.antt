use Rattle.std.proofs.Common.{List, ℕ, subst}
use Rattle.subkeys.specs.Subkeys.{IsOf}
use Rattle.subkeys.proofs.subkeys.Subkeys.are_of_a_key.Goals as goal

pub returns : goal.returns
returns c = subst (λ pair. ∥ ((key : List ℕ) × IsOf pair key) ∥₁) c.self.view_is c.self.invariant.of_a_key
