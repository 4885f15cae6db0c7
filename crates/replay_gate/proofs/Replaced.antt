-- What has to hold of all passes, where one view is replaced or added.
use Rattle.std.proofs.Common.{◌≡◌, ◌≢◌, ℕ, ◌≤◌, ◌<◌, List, [], ◌∷◌, ◌++◌, length, set, sym, ◌∙◌, subst, ◌⊎◌, ⊎_elim}
use Rattle.atomic_table.proofs.Lists.{at_set, set_here, set_else, at_longer}
use Rattle.munge_types.specs.declared.history.Event.{Event}
use Rattle.replay_gate.specs.declared.view.View.{View}
use Rattle.replay_gate.specs.Rule.{IsUnique, Owns, Holds, Knows, Fits}
use Rattle.replay_gate.specs.Views.{At}
use Rattle.replay_gate.proofs.Totals.{at_length, at_same, at_push}

-- no view but the one at i has a number of this kind that w has
abbrev pub Apart : (View → ℕ → Type 0) → List View → ℕ → View → Type 0
Apart P views i w = (j : ℕ) (u : View) (number : ℕ) → j ≢ i → At views j u → P w number → P u number → ⊥

-- some other view has the ticket
abbrev pub HeldElse : List View → ℕ → ℕ → Type 0
HeldElse views i mine = (j : ℕ) × (u : View) × (j ≢ i) × At views j u × Holds u mine

unique_set : (P : View → ℕ → Type 0) (views : List View) (i : ℕ) (w : View) → IsUnique P views → Apart P views i w → IsUnique P (set views i w)
unique_set P views i w unique apart j k u x number at_j at_k has_u has_x =
    ⊎_elim (λ (s : (j ≡ i) × (w ≡ u)). ⊎_elim (λ (t : (k ≡ i) × (w ≡ x)). s.0 ∙ sym t.0)
    (λ (t : (k ≢ i) × At views k x). absurd (apart k x number t.0 t.1 (subst (λ z. P z number) (sym s.1) has_u) has_x)) (at_set views i k w x at_k))
    (λ (s : (j ≢ i) × At views j u). ⊎_elim (λ (t : (k ≡ i) × (w ≡ x)). absurd (apart j u number s.0 s.1 (subst (λ z. P z number) (sym t.1) has_x) has_u))
    (λ (t : (k ≢ i) × At views k x). unique j k u x number s.1 t.1 has_u has_x) (at_set views i k w x at_k))
    (at_set views i j w u at_j)

unique_push : (P : View → ℕ → Type 0) (views : List View) (w : View) → IsUnique P views
    → ((j : ℕ) (u : View) (number : ℕ) → At views j u → P w number → P u number → ⊥) → IsUnique P (views ++ w ∷ [])
unique_push P views w unique apart j k u x number at_j at_k has_u has_x =
    ⊎_elim (λ (s : At views j u). ⊎_elim (λ (t : At views k x). unique j k u x number s t has_u has_x)
    (λ (t : (k ≡ length views) × (w ≡ x)). absurd (apart j u number s (subst (λ z. P z number) (sym t.1) has_x) has_u)) (at_push views w x k at_k))
    (λ (s : (j ≡ length views) × (w ≡ u)). ⊎_elim (λ (t : At views k x). absurd (apart k x number t (subst (λ z. P z number) (sym s.1) has_u) has_x))
    (λ (t : (k ≡ length views) × (w ≡ x)). s.0 ∙ sym t.0) (at_push views w x k at_k))
    (at_push views w u j at_j)

module _ (start passes : ℕ) where
  -- a view is replaced, while the two words and the history may go on
  pub replaced : (ticket turn : ℕ) (history : List Event) (later serving : ℕ) (longer : List Event) (views : List View) (i : ℕ) (v w : View)
      → At views i v
      → Fits start passes ticket turn history views
      → Knows start passes later serving longer w
      → ((j : ℕ) (u : View) → j ≢ i → At views j u → Knows start passes later serving longer u)
      → Apart Owns views i w
      → Apart Holds views i w
      → ((mine : ℕ) → serving ≤ mine → mine < later → Holds w mine ⊎ HeldElse views i mine)
      → Fits start passes later serving longer (set views i w)
  replaced ticket turn history later serving longer views i v w at fits knows others owns holds held = record {
    each = λ j u at_j. ⊎_elim (λ (t : (j ≡ i) × (w ≡ u)). subst (Knows start passes later serving longer) t.1 knows)
        (λ (t : (j ≢ i) × At views j u). others j u t.0 t.1) (at_set views i j w u at_j);
    one_owner = unique_set Owns views i w fits.one_owner owns;
    one_holder = unique_set Holds views i w fits.one_holder holds;
    held = λ mine low high. ⊎_elim
        (λ (h : Holds w mine). record { place = i; view = w; at = set_here views i w (at_length views i v at); has = h })
        (λ (t : HeldElse views i mine). record { place = t.0; view = t.1; at = set_else views i t.0 w t.2 ∙ t.3; has = t.4 }) (held mine low high);
  }

  -- a view without a ticket is added
  pub added : (ticket turn : ℕ) (history : List Event) (views : List View) (w : View)
      → Fits start passes ticket turn history views
      → Knows start passes ticket turn history w
      → ((j : ℕ) (u : View) (number : ℕ) → At views j u → Owns w number → Owns u number → ⊥)
      → ((mine : ℕ) → Holds w mine → ⊥)
      → Fits start passes ticket turn history (views ++ w ∷ [])
  added ticket turn history views w fits knows owns free = record {
    each = λ j u at. ⊎_elim (λ (t : At views j u). fits.each j u t)
        (λ (t : (j ≡ length views) × (w ≡ u)). subst (Knows start passes ticket turn history) t.1 knows) (at_push views w u j at);
    one_owner = unique_push Owns views w fits.one_owner owns;
    one_holder = unique_push Holds views w fits.one_holder (λ j u mine at holds _. free mine holds);
    held = λ mine low high. let h = fits.held mine low high in
        record { place = h.place; view = h.view; at = at_longer views (w ∷ []) h.place h.view h.at; has = h.has };
  }

-- a ticket that the view at i has not is another's
pub held_else : (views : List View) (i : ℕ) (v : View) (mine : ℕ) → At views i v → (Holds v mine → ⊥)
    → (j : ℕ) (u : View) → At views j u → Holds u mine → HeldElse views i mine
held_else views i v mine at free j u at_j holds =
    (j, u, (λ e. free (subst (λ z. Holds z mine) (at_same views j i u v e at_j at) holds)), at_j, holds)
