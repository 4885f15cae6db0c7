-- The views that the steps of a call make of a pass's view.
use Rattle.std.specs.Prelude.{◌≡◌, ℕ, ◌+◌, ◌-◌, max, nat_lt, if◌then◌else◌, List, [], ◌∷◌, ◌++◌}
use mathlib.Core.Option.{some}
use lib.ListN.{get_elem?}
use Rattle.munge_types.specs.declared.history.Event.{Event}
use Rattle.replay_gate.specs.declared.view.View.{View}
use Rattle.replay_gate.specs.declared.view.Part.{Part}
use Rattle.replay_gate.specs.declared.view.Stage.{Stage}
use Rattle.replay_gate.specs.declared.view.Stage.TheVariants.{Resting, Asking, Waiting, Serving, Meeting}
use Rattle.replay_gate.specs.GoesOn.{longer_of}
use Rattle.replay_gate.specs.Worn.{worn_at}

-- this view stands at this place
abbrev pub At : List View → ℕ → View → Type 0
At views i v = get_elem? views i ≡ some v

-- the view of the first pass of a gate
abbrev pub first_view : ℕ → ℕ → View
first_view start passes = record {
  start = start;
  passes = passes;
  number = 0;
  numbers = 0 ∷ [];
  spare = passes - 1;
  share = passes;
  highest = start;
  seen = [];
  stage = Resting;
}

-- the view of a pass that was met away
abbrev pub gone : View
gone = record {
  start = 0;
  passes = 0;
  number = 0;
  numbers = [];
  spare = 0;
  share = 0;
  highest = 0;
  seen = [];
  stage = Resting;
}

abbrev pub at_stage : Stage → View → View
at_stage stage v = record v { stage = stage }

-- the view after the ticket word was read
abbrev pub heard : ℕ → View → View
heard found v =
    record v { highest = found; stage = if nat_lt found worn_at then Asking else Resting }

-- the view of a pass that has read a ticket word and drawn a ticket
abbrev pub with_ticket : (found ticket : ℕ) → View → View
with_ticket found ticket v = record v { highest = found; stage = Waiting ticket }

-- the view of a pass that has the turn, where the history is this one
abbrev pub serving : ℕ → List Event → View → View
serving ticket history v = record v { seen = history; stage = Serving ticket }

-- the same, with the ticket word that it has read
abbrev pub with_turn : (found ticket : ℕ) → List Event → View → View
with_turn found ticket history v =
    record v { highest = found; seen = history; stage = Serving ticket }

-- the view after the entry was added
abbrev pub entered : Event → View → View
entered entry v = record v { seen = v.seen ++ entry ∷ []; stage = Resting }

-- the same, with the ticket word that was read and the history before the entry
abbrev pub with_entry : ℕ → List Event → Event → View → View
with_entry found history entry v =
    record v { highest = found; seen = history ++ entry ∷ []; stage = Resting }

-- a pass that has given its last numbers away
abbrev pub left_part : ℕ → View → View
left_part count v = record v { spare = v.spare - count; share = v.share - count }

-- the pass that these numbers were given to
abbrev pub given_part : ℕ → View → View
given_part count v = record v {
  number = v.number + v.spare - count + 1;
  numbers = (v.number + v.spare - count + 1) ∷ [];
  spare = count - 1;
  share = count;
}

-- its numbers and what it has seen
abbrev pub part_of : View → Part
part_of v = record { numbers = v.numbers; seen = v.seen }

-- a pass that has taken another in
abbrev pub merged : View → View → View
merged v w = record v {
  numbers = v.numbers ++ w.numbers;
  share = v.share + w.share;
  highest = max v.highest w.highest;
  seen = longer_of v.seen w.seen;
  stage = Meeting (part_of v) (part_of w);
}
