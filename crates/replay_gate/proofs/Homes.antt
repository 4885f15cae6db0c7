-- Where the state is, and who made which entry, as views are replaced and added.
use Rattle.std.proofs.Common.{◌≡◌, ◌≢◌, ℕ, List, [], ◌∷◌, ◌++◌, length, set, sym, ap, ◌∙◌, subst, ◌⊎◌, inl, inr, ⊎_elim}
use mathlib.Core.Logic.{dite}
use mathlib.Core.Option.{Option}
use native.Mathlib.Decide.{ℕ_discrete}
use Rattle.atomic_table.proofs.Lists.{at_set, set_here, set_else, at_longer}
use Rattle.munge_types.specs.StandsFor.{Remembered}
use Rattle.munge_types.specs.declared.history.Event.{Event}
use Rattle.replay_gate.specs.declared.view.View.{View}
use Rattle.replay_gate.specs.Rule.{HasNumber, SomeHas, IsHome, IsServing}
use Rattle.replay_gate.specs.Views.{At}
use Rattle.replay_gate.proofs.Totals.{at_length, at_same, at_push}

-- the pass has not the turn
abbrev pub Waits : View → Type 0
Waits v = (mine : ℕ) → IsServing v mine → ⊥

-- some view has the number
abbrev pub IsMade : List View → ℕ → Type 0
IsMade views number = SomeHas HasNumber views number

pub made_set : (views : List View) (i : ℕ) (v w : View) (number : ℕ) → At views i v
    → (HasNumber v number → HasNumber w number) → IsMade views number → IsMade (set views i w) number
made_set views i v w number at grows made =
    dite (ℕ_discrete made.place i)
    (λ e. record {
      place = i;
      view = w;
      at = set_here views i w (at_length views i v at);
      has = grows (subst (λ (z : View). HasNumber z number) (at_same views made.place i made.view v e made.at at) made.has);
    })
    (λ other. record { place = made.place; view = made.view; at = set_else views i made.place w other ∙ made.at; has = made.has })

pub made_push : (views : List View) (w : View) (number : ℕ) → IsMade views number → IsMade (views ++ w ∷ []) number
made_push views w number made = record {
  place = made.place;
  view = made.view;
  at = at_longer views (w ∷ []) made.place made.view made.at;
  has = made.has;
}

module _ {S : Type 0} (remembered : S → Remembered) where
  abbrev pub Placed : ℕ → List Event → List ℕ → List (Option S) → List View → Type 0
  Placed turn history words homes views = IsHome remembered (record { words = words; homes = homes; views = views }) history ⊎ SomeHas IsServing views turn

  -- a pass that has not the turn stays without it
  pub home_set : (turn : ℕ) (history : List Event) (words after : List ℕ) (homes : List (Option S)) (views : List View) (i : ℕ) (v w : View)
      → At views i v → Waits v → Waits w → Placed turn history words homes views → Placed turn history after homes (set views i w)
  home_set turn history words after homes views i v w at before waits placed =
      ⊎_elim
      (λ (h : IsHome remembered (record { words = words; homes = homes; views = views }) history). inl record {
        state = h.state;
        homes = h.homes;
        stands_for = h.stands_for;
        nobody = λ j u mine at_j serves. ⊎_elim (λ (t : (j ≡ i) × (w ≡ u)). waits mine (ap (λ (z : View). z.stage) t.1 ∙ serves))
            (λ (t : (j ≢ i) × At views j u). h.nobody j u mine t.1 serves) (at_set views i j w u at_j);
      })
      (λ (t : SomeHas IsServing views turn). inr record {
        place = t.place;
        view = t.view;
        at = set_else views i t.place w (λ e. before turn (ap (λ (z : View). z.stage) (sym (at_same views t.place i t.view v e t.at at)) ∙ t.has)) ∙ t.at;
        has = t.has;
      })
      placed

  pub home_push : (turn : ℕ) (history : List Event) (words after : List ℕ) (homes : List (Option S)) (views : List View) (w : View)
      → Waits w → Placed turn history words homes views → Placed turn history after homes (views ++ w ∷ [])
  home_push turn history words after homes views w waits placed =
      ⊎_elim
      (λ (h : IsHome remembered (record { words = words; homes = homes; views = views }) history). inl record {
        state = h.state;
        homes = h.homes;
        stands_for = h.stands_for;
        nobody = λ j u mine at_j serves. ⊎_elim (λ (t : At views j u). h.nobody j u mine t serves)
            (λ (t : (j ≡ length views) × (w ≡ u)). waits mine (ap (λ (z : View). z.stage) t.1 ∙ serves)) (at_push views w u j at_j);
      })
      (λ (t : SomeHas IsServing views turn). inr record {
        place = t.place;
        view = t.view;
        at = at_longer views (w ∷ []) t.place t.view t.at;
        has = t.has;
      })
      placed
