-- What contracts see of a gate and of a pass.
use Rattle.std.specs.Prelude.{ℕ, ◌+◌, ◌-◌, List, [], ◌∷◌}
use Rattle.atomic_table.specs.Seated.{TableId}
use Rattle.munge_types.specs.declared.history.Event.{Event}

-- which gate it is, at which number its tickets began, and how many passes it may have
pub record GateId : Type 0 where
  pub table : TableId
  pub start : ℕ
  pub passes : ℕ

-- A pass of a gate: its own number, its own and those of the passes that were met into it, how many
-- numbers after its own it can give away, how many of the gate's passes it stands for, the greatest
-- ticket word that a call of it has read, and the front of the gate's history that it has seen.
pub record PassState : Type 0 where
  pub gate : GateId
  pub number : ℕ
  pub numbers : List ℕ
  pub spare : ℕ
  pub share : ℕ
  pub highest : ℕ
  pub seen : List Event

-- a gate has fewer passes than this, since their numbers are `u32`
abbrev pub pass_limit : ℕ
pass_limit = 4294967296

-- the first pass of a gate: it stands for all of them, and has seen nothing
abbrev pub first_pass : GateId → PassState
first_pass gate = record {
  gate = gate;
  number = 0;
  numbers = 0 ∷ [];
  spare = gate.passes - 1;
  share = gate.passes;
  highest = gate.start;
  seen = [];
}

-- the pass that is left where so many numbers were given away
abbrev pub kept_pass : ℕ → PassState → PassState
kept_pass count pass = record pass { spare = pass.spare - count; share = pass.share - count }

-- the new pass, to which the last so many of its numbers were given
abbrev pub given_pass : ℕ → PassState → PassState
given_pass count pass = record pass {
  number = pass.number + pass.spare - count + 1;
  numbers = (pass.number + pass.spare - count + 1) ∷ [];
  spare = count - 1;
  share = count;
}
