-- What a gate is made of.
use Rattle.std.specs.Prelude.{◌≡◌}
use Rattle.atomic_table.specs.Seated.{TableId}
use Rattle.replay_gate.specs.declared.gate.Origin.{Origin}
use Rattle.replay_gate.specs.PassState.{GateId}

-- what contracts see of a gate
abbrev pub gate_id : TableId → Origin → GateId
gate_id table origin = record { table = table; start = origin.start; passes = origin.passes }

-- its table has two words and one slot, and was told the gate's origin
pub record IsGate (table : TableId) (told origin : Origin) : Type 0 where
  pub words : table.words ≡ 2
  pub slots : table.slots ≡ 1
  pub told_is : told ≡ origin
