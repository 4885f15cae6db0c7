-- What contracts see of a `Reply`, and of a credential that is ready.
use Rattle.std.specs.Prelude.{ℕ, List}
use Rattle.munge_types.specs.declared.pair.Pair.{Pair}
use Rattle.munge_types.specs.declared.status.Status.{Status}

-- a reply: its frame, its status, and the rule that is broken, 0 for none
pub record Answer : Type 0 where
  pub bytes : List ℕ
  pub status : Status
  pub rule : ℕ

-- a credential about which the history is to be asked: its pair, and the frame of the reply but for
-- what the history says
pub record Pending : Type 0 where
  pub pair : Pair
  pub frame : List ℕ
