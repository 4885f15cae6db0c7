-- What a look-up makes of its pass.
use Rattle.std.specs.Prelude.{◌≡◌, ℕ, List, length}
use Rattle.munge_types.specs.History.{verdict}
use Rattle.munge_types.specs.declared.history.Event.{Event}
use Rattle.munge_types.specs.declared.history.Event.TheVariants.{Admit, Idle}
use Rattle.munge_types.specs.declared.history.Verdict.TheVariants.{Accepted}
use Rattle.munge_types.specs.declared.pair.Pair.{Pair}
use Rattle.replay_gate.specs.declared.refused.Admitted.{Admitted}
use Rattle.replay_gate.specs.declared.refused.GateRefused.{GateRefused}
use Rattle.replay_gate.specs.declared.refused.GateRefused.TheVariants.{NoMemory, Worn}
use Rattle.replay_gate.specs.Enters.{Enters}
use Rattle.replay_gate.specs.PassState.{PassState}
use Rattle.replay_gate.specs.Worn.{IsWorn}

-- the look-up was made, and its verdict is the history's at its place
pub record Answers (old new : PassState) (pair : Pair) (moment : ℕ) (did : Admitted) : Type 0 where
  pub before : List Event
  pub enters : Enters old new before (Admit old.number pair moment)
  pub place_is : did.place ≡ length before
  pub verdict_is : did.verdict ≡ verdict before pair moment

-- no memory was found for a pair that the history would have accepted: it was not
pub record Idles (old new : PassState) (pair : Pair) (moment : ℕ) : Type 0 where
  pub before : List Event
  pub enters : Enters old new before (Idle old.number)
  pub wanted : verdict before pair moment ≡ Accepted

-- a look-up that is refused: an idle entry for want of memory, and none where the gate is worn
abbrev pub Refuses : PassState → PassState → Pair → ℕ → GateRefused → Type 0
Refuses old new pair moment NoMemory = Idles old new pair moment
Refuses old new pair moment (Worn ticket) = IsWorn old new ticket
