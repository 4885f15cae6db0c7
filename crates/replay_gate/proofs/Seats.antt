-- The steps of a call, of a seat as the code has it.
use Rattle.std.proofs.Common.{◌≡◌, ℕ, ◌+◌, ◌%◌, ◌^◌, ◌<◌, ◌≤◌, nat_lt, length, List, [], cond, sym, ap, ◌∙◌, subst}
use Rattle.std.proofs.lemmas.Bool.{lt-ltb, le-ltb}
use Rattle.atomic_table.specs.Table.{Me, Allows}
use Rattle.munge_types.specs.StandsFor.{Remembered, Stands}
use Rattle.munge_types.specs.declared.history.Event.{Event}
use Rattle.replay_gate.specs.declared.view.View.{View}
use Rattle.replay_gate.specs.declared.view.Part.{Part}
use Rattle.replay_gate.specs.declared.view.Stage.{Stage}
use Rattle.replay_gate.specs.declared.view.Stage.TheVariants.{Resting, Asking, Waiting, Serving, Meeting}
use Rattle.replay_gate.specs.GoesOn.{GoesOn}
use Rattle.replay_gate.specs.Makers.{maker}
use Rattle.replay_gate.specs.PassState.{pass_limit}
use Rattle.replay_gate.specs.Rule.{Kept}
use Rattle.replay_gate.specs.Seats.{Rests, Waits, FindsWorn, StandsWith, HasTurn, HasEntered, HasMet}
use Rattle.replay_gate.specs.Steps.{Asked, Drew, Looked, Left, Met, Serves}
use Rattle.replay_gate.specs.Views.{serving, entered, merged, part_of, at_stage}
use Rattle.replay_gate.specs.Worn.{worn_at}
use Rattle.replay_gate.proofs.Stepping.{asks_allowed, draws_allowed}
use Rattle.replay_gate.proofs.Turns.{looks_allowed, leaves_allowed}
use Rattle.replay_gate.proofs.Meeting.{compares_allowed}

module _ {S : Type 0} (remembered : S → Remembered) (start passes slots id : ℕ) (me : Me S View) where
  pub asks_at : Rests me → Allows (Kept remembered start passes) slots id me 0 (λ n. n) (Asked me)
  asks_at rests =
      subst (λ (c : List (ℕ × S)). Allows (Kept remembered start passes) slots id (me.0, c) 0 (λ n. n) (Asked (me.0, c))) (sym rests.holds_nothing)
      (asks_allowed remembered start passes slots id me.0 rests.rests rests.alive)

  pub draws_at : (before : Me S View) (found : ℕ) → Asked before found me → found < worn_at
      → Allows (Kept remembered start passes) slots id me 0 (λ n. (n + 1) % 2 ^ 64) (Drew me)
  draws_at before found asked below =
      let stage : me.0.stage ≡ Asking = ap (λ (m : Me S View). m.0.stage) asked.after_is ∙ ap (λ b. cond b Asking Resting) (lt-ltb found worn_at below) in
      let holds : me.1 ≡ [] = ap (λ (m : Me S View). m.1) asked.after_is in
      subst (λ (c : List (ℕ × S)). Allows (Kept remembered start passes) slots id (me.0, c) 0 (λ n. (n + 1) % 2 ^ 64) (Drew (me.0, c))) (sym holds)
      (draws_allowed remembered start passes slots id me.0 stage)

  pub looks_at : (ticket : ℕ) → me.1 ≡ [] → me.0.stage ≡ Waiting ticket
      → Allows (Kept remembered start passes) slots id me 1 (λ n. n) (Looked remembered me)
  looks_at ticket holds waits =
      subst (λ (c : List (ℕ × S)). Allows (Kept remembered start passes) slots id (me.0, c) 1 (λ n. n) (Looked remembered (me.0, c))) (sym holds)
      (looks_allowed remembered start passes slots id me.0 ticket waits)

  pub leaves_at : (entry : Event) (ticket : ℕ) → StandsWith remembered me entry → me.0.stage ≡ Serving ticket
      → maker entry ≡ me.0.number → slots ≡ 1
      → Allows (Kept remembered start passes) slots id me 1 (λ n. (n + 1) % 2 ^ 64) (λ found. Left entry me)
  leaves_at entry ticket state serves by one =
      subst (λ (c : List (ℕ × S)). Allows (Kept remembered start passes) slots id (me.0, c) 1 (λ n. (n + 1) % 2 ^ 64) (λ found. Left entry (me.0, c))) (sym state.holds)
      (leaves_allowed remembered start passes slots id me.0 ticket state.state entry serves state.stands_for by one)

  pub compares_at : (first second : Part) → me.1 ≡ [] → me.0.stage ≡ Meeting first second
      → Allows (Kept remembered start passes) slots id me 0 (λ n. n) (λ found. Met me)
  compares_at first second holds meets =
      subst (λ (c : List (ℕ × S)). Allows (Kept remembered start passes) slots id (me.0, c) 0 (λ n. n) (λ found. Met (me.0, c))) (sym holds)
      (compares_allowed remembered start passes slots id me.0 first second meets)

module _ {S : Type 0} where
  -- a pass that found the gate worn is as before, but for the number that it read
  pub finds_worn : (before after : Me S View) (found : ℕ) → Rests before → Asked before found after → worn_at ≤ found → FindsWorn before after found
  finds_worn before after found rests asked worn =
      let stage : cond (nat_lt found worn_at) Asking Resting ≡ before.0.stage = ap (λ b. cond b Asking Resting) (le-ltb found worn_at worn) ∙ sym rests.rests in record {
        worn = worn;
        not_below = asked.not_below;
        after_is = asked.after_is ∙ ap (λ (z : Stage). let w : View = record (before.0) { highest = found; stage = z } in let m : Me S View = (w, []) in m) stage;
      }

  pub waits : (before between after : Me S View) (found ticket : ℕ) → Asked before found between → Drew between ticket after → found < worn_at
      → Waits before after ticket
  waits before between after found ticket asked drew below = record {
    found = found;
    not_below = asked.not_below;
    not_worn = below;
    fits = drew.fits;
    after_is = drew.after_is ∙ ap (λ (z : Me S View). let m : Me S View = (at_stage (Waiting ticket) z.0, []) in m) asked.after_is;
  }

  pub has_turn : (remembered : S → Remembered) (before between after : Me S View) (ticket : ℕ) → Waits before between ticket
      → Serves remembered ticket between after → HasTurn remembered before after ticket
  has_turn remembered before between after ticket waits serves =
      let same = ap (λ (z : Me S View). z.0) waits.after_is in
      let seen = ap (λ (z : Me S View). z.0.seen) serves.after_is in record {
        found = waits.found;
        not_below = waits.not_below;
        not_worn = waits.not_worn;
        fits = waits.fits;
        history = serves.history;
        goes_on = subst (λ (z : View). GoesOn z.numbers z.seen serves.history) same serves.goes_on;
        place = subst (λ (z : View). ticket ≡ z.start + length serves.history) same serves.place;
        view_is = ap (λ (z : Me S View). z.0) serves.after_is
            ∙ ap (serving ticket serves.history) same;
        stands_for = record {
          state = serves.state;
          holds = ap (λ (z : Me S View). z.1) serves.after_is;
          stands_for = subst (Stands (remembered serves.state)) (sym seen) serves.stands_for;
        };
      }

  pub has_entered : (remembered : S → Remembered) (before between looked after : Me S View) (ticket : ℕ) (entry : Event)
      → (turn : HasTurn remembered before between ticket) → looked.0 ≡ between.0 → after ≡ (entered entry looked.0, [])
      → HasEntered before after ticket turn.history entry
  has_entered remembered before between looked after ticket entry turn view left = record {
    found = turn.found;
    not_below = turn.not_below;
    not_worn = turn.not_worn;
    fits = turn.fits;
    goes_on = turn.goes_on;
    place = turn.place;
    after_is = left ∙ ap (λ (z : View). let m : Me S View = (entered entry z, []) in m) (view ∙ turn.view_is);
  }

  pub has_met : (v w : View) (between after : Me S View) → between.0 ≡ merged v w → Met between after → HasMet v w after
  has_met v w between after is met =
      let told = met (part_of v) (part_of w) (ap (λ (z : View). z.stage) is) in record {
        after_is = told.after_is ∙ ap (λ (z : View). let m : Me S View = (at_stage Resting z, []) in m) is;
        first_goes_on = subst (λ (z : View). GoesOn v.numbers v.seen z.seen) is told.first_goes_on;
        second_goes_on = subst (λ (z : View). GoesOn w.numbers w.seen z.seen) is told.second_goes_on;
        apart = told.apart;
        few = subst (λ (z : View). z.share < pass_limit) is told.few;
      }
