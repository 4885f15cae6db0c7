-- The gate's rule: what its words, its state and the views of all its passes have to do with one
-- history.
use Rattle.std.specs.Prelude.{◌≡◌, ℕ, ◌+◌, ◌<◌, ◌≤◌, false, List, [], ◌∷◌, length, ◌⊎◌}
use Rattle.std.specs.List.{sum_by}
use mathlib.Core.Option.{some}
use Rattle.atomic_table.specs.Table.{State}
use Rattle.munge_types.specs.StandsFor.{Remembered, Stands}
use Rattle.munge_types.specs.declared.history.Event.{Event}
use Rattle.replay_gate.specs.declared.view.View.{View}
use Rattle.replay_gate.specs.declared.view.Stage.TheVariants.{Serving}
use Rattle.replay_gate.specs.GoesOn.{GoesOn}
use Rattle.replay_gate.specs.Makers.{IsOf, any_by, HasMade}
use Rattle.replay_gate.specs.PassState.{pass_limit}
use Rattle.replay_gate.specs.Stages.{HasTicket, asking, StageFits}
use Rattle.replay_gate.specs.Views.{At}
use Rattle.replay_gate.specs.Worn.{worn_at}

-- the number is the pass's own, or that of a pass that was met into it
abbrev pub HasNumber : View → ℕ → Type 0
HasNumber v number = IsOf v.numbers number

-- a number that the pass may give away
abbrev pub IsUnspent : View → ℕ → Type 0
IsUnspent v number = (v.number < number) × (number ≤ v.number + v.spare)

abbrev pub Owns : View → ℕ → Type 0
Owns v number = HasNumber v number ⊎ IsUnspent v number

abbrev pub Holds : View → ℕ → Type 0
Holds v ticket = HasTicket v.stage ticket

-- the pass has the turn, by this ticket
abbrev pub IsServing : View → ℕ → Type 0
IsServing v ticket = v.stage ≡ Serving ticket

abbrev pub asks : View → ℕ
asks v = asking v.stage

abbrev pub share_of : View → ℕ
share_of v = v.share

-- no two of the views have a number of this kind in common
abbrev pub IsUnique : (View → ℕ → Type 0) → List View → Type 0
IsUnique P views = (i j : ℕ) (v w : View) (number : ℕ) → At views i v → At views j w
    → P v number → P w number → i ≡ j

-- one of the views has it
pub record SomeHas (P : View → ℕ → Type 0) (views : List View) (number : ℕ) : Type 0 where
  pub place : ℕ
  pub view : View
  pub at : At views place view
  pub has : P view number

module _ (start passes ticket turn : ℕ) (history : List Event) where
  -- what has to hold of one pass
  pub record Knows (v : View) : Type 0 where
    pub same_gate : 0 < v.share → (v.start ≡ start) × (v.passes ≡ passes)
    pub highest : v.highest ≤ ticket
    pub seen : GoesOn v.numbers v.seen history
    -- an unspent number is no number that it has, and has no entry
    pub apart : (number : ℕ) → HasNumber v number → IsUnspent v number → ⊥
    pub fresh : (number : ℕ) → IsUnspent v number → any_by (number ∷ []) history ≡ false
    pub own : 0 < v.share → HasNumber v v.number
    pub living : (number : ℕ) → HasNumber v number → 0 < v.share
    pub spares : 0 < v.spare → v.spare < v.share
    pub stage : StageFits ticket turn history v v.stage

  -- what has to hold of all passes
  pub record Fits (views : List View) : Type 0 where
    pub each : (i : ℕ) (v : View) → At views i v → Knows v
    pub one_owner : IsUnique Owns views
    pub one_holder : IsUnique Holds views
    -- every ticket that was drawn and not yet served is some pass's
    pub held : (mine : ℕ) → turn ≤ mine → mine < ticket → SomeHas Holds views mine

module _ {S : Type 0} (remembered : S → Remembered) where
  -- no pass has the turn, and the state, which stands for the history, is in its place
  pub record IsHome (s : State S View) (history : List Event) : Type 0 where
    pub state : S
    pub homes : s.homes ≡ some state ∷ []
    pub stands_for : Stands (remembered state) history
    pub nobody : (i : ℕ) (v : View) (mine : ℕ) → At s.views i v → IsServing v mine → ⊥

  -- the rule, for a gate that began at this number, of so many passes
  pub record Kept (start passes : ℕ) (s : State S View) : Type 0 where
    pub ticket : ℕ
    pub turn : ℕ
    pub history : List Event
    pub words : s.words ≡ ticket ∷ turn ∷ []
    pub few : passes < pass_limit
    pub entries : turn ≡ start + length history
    pub drawn : turn ≤ ticket
    pub room : ticket + sum_by asks s.views ≤ worn_at + passes
    pub shares : sum_by share_of s.views ≡ passes
    pub fits : Fits start passes ticket turn history s.views
    -- every entry was made by some pass
    pub made : (number : ℕ) → HasMade history number → SomeHas HasNumber s.views number
    pub home : IsHome s history ⊎ SomeHas IsServing s.views turn
