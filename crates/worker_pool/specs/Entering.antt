-- What a call that served a connection made of its pass, and what is told of its entry.
use Rattle.std.specs.Prelude.{◌≡◌, ℕ, ◌≤◌, List, length}
use Rattle.std.specs.declared.option.Option.{Option}
use Rattle.std.specs.declared.option.Option.TheVariants.{None, Some}
use Rattle.munge_types.specs.History.{verdict}
use Rattle.munge_types.specs.declared.history.Event.{Event}
use Rattle.munge_types.specs.declared.history.Event.TheVariants.{Admit, Purge, Idle}
use Rattle.decode_rules.specs.VerdictRules.{verdict_rule}
use Rattle.replay_gate.specs.Enters.{Enters}
use Rattle.replay_gate.specs.Makers.{maker}
use Rattle.replay_gate.specs.PassState.{PassState}

-- the rule that is told of an entry after this history: that of its verdict, where it is a look-up
abbrev pub TellsRule : (before : List Event) → Event → (rule : Option ℕ) → Type 0
TellsRule before (Admit pass pair moment) rule =
    rule ≡ Some (verdict_rule (verdict before pair moment))
TellsRule before (Purge pass moment) rule = ⊥
TellsRule before (Idle pass) rule = rule ≡ None

-- the call made an entry at this place, of which this rule is told
pub record EntersAt (old new : PassState) (rule : Option ℕ) (place : ℕ) : Type 0 where
  pub before : List Event
  pub entry : Event
  pub enters : Enters old new before entry
  pub place_is : place ≡ length before
  pub by : maker entry ≡ old.number
  pub told : TellsRule before entry rule

-- it made none
pub record EntersNone (old new : PassState) : Type 0 where
  pub not_below : old.highest ≤ new.highest
  pub after_is : new ≡ record old { highest = new.highest }

abbrev pub Moves : (old new : PassState) → (rule place : Option ℕ) → Type 0
Moves old new rule (Some place) = EntersAt old new rule place
Moves old new rule None = EntersNone old new
