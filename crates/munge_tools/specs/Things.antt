-- What a tool works on.
use Rattle.std.specs.Prelude.{ℕ, List, Option}
use Rattle.munge_tools.specs.ReplyRead.{Input}
use Rattle.munge_tools.specs.Wire.{WireSeen}

-- its input, what its output took where that is told, and its wire
pub record Things : Type 0 where
  pub input : Input
  pub taken : Option (List ℕ)
  pub wire : WireSeen

abbrev pub things_of : Input → (taken : Option (List ℕ)) → WireSeen → Things
things_of input taken wire = record { input = input; taken = taken; wire = wire }

-- what of these is as it was
pub record Same : Type 1 where
  pub input : Type 0
  pub out : Type 0
  pub wire : Type 0

abbrev pub same_of : (input out wire : Type 0) → Same
same_of input out wire = record { input = input; out = out; wire = wire }
