-- What a pass is made of.
use Rattle.std.specs.Prelude.{◌≡◌, ℕ, ◌+◌, ◌<◌, List, [], ◌∷◌, length}
use Rattle.atomic_table.specs.Seated.{TableId}
use Rattle.replay_gate.specs.declared.view.View.{View}
use Rattle.replay_gate.specs.declared.view.Stage.TheVariants.{Resting}
use Rattle.replay_gate.specs.PassState.{PassState, pass_limit}
use Rattle.replay_gate.specs.Views.{gone}

-- the view of a seat whose badge has these
abbrev pub the_view : List View → View
the_view [] = gone
the_view (v ∷ views) = v

-- what contracts see of a pass
abbrev pub pass_state : TableId → View → PassState
pass_state table v = record {
  gate = record { table = table; start = v.start; passes = v.passes };
  number = v.number;
  numbers = v.numbers;
  spare = v.spare;
  share = v.share;
  highest = v.highest;
  seen = v.seen;
}

-- its badge has one view, which rests, and these are its numbers
pub record IsPass (views : List View) (number spare share seen : ℕ) : Type 0 where
  pub one : views ≡ the_view views ∷ []
  pub rests : (the_view views).stage ≡ Resting
  pub alive : 0 < share
  pub spares : spare < share
  pub few : number + spare < pass_limit
  pub number_is : (the_view views).number ≡ number
  pub spare_is : (the_view views).spare ≡ spare
  pub share_is : (the_view views).share ≡ share
  pub length_is : length (the_view views).seen ≡ seen
