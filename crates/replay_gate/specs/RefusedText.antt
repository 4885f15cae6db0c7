-- What is printed of a call that made no entry, or an idle one.
use Rattle.std.specs.Prelude.{ℕ, List, ◌++◌, codes}
use Rattle.std.specs.Fmt.{decimal}
use Rattle.replay_gate.specs.declared.refused.GateRefused.{GateRefused}
use Rattle.replay_gate.specs.declared.refused.GateRefused.TheVariants.{NoMemory, Worn}

abbrev pub worn_text : (ticket : ℕ) → List ℕ
worn_text ticket = codes "the gate is worn at ticket " ++ decimal ticket

abbrev pub refused_text : GateRefused → List ℕ
refused_text NoMemory = codes "no memory"
refused_text (Worn ticket) = worn_text ticket
