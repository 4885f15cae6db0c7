-- The rule holds where a gate begins, and what it says where a gate is closed.
use Rattle.std.proofs.Common.{◌≡◌, ℕ, ◌+◌, ◌≤◌, ◌<◌, true, false, ◌||◌, List, [], ◌∷◌, ◌++◌, length, zero, suc, sym, ap, ◌∙◌, refl, subst, inl, ⊎_elim, arith}
use Rattle.std.proofs.Math.Bool.{or-true}
use Rattle.std.proofs.lemmas.Bool.{true≢false}
use Rattle.std.proofs.lemmas.List.{append-nil}
use mathlib.Core.Logic.{dite}
use mathlib.Core.Option.{some, some-injective, some-ne-none}
use native.Mathlib.Decide.{ℕ_discrete}
use Rattle.atomic_table.specs.Table.{State, opening, Final, Seen}
use Rattle.munge_types.specs.StandsFor.{Remembered, Stands}
use Rattle.munge_types.specs.declared.history.Event.{Event}
use Rattle.replay_gate.specs.declared.view.View.{View}
use Rattle.replay_gate.specs.declared.view.Stage.{Stage}
use Rattle.replay_gate.specs.declared.view.Stage.TheVariants.{Resting, Serving}
use Rattle.replay_gate.specs.Makers.{maker, any_by, AreMadeBy}
use Rattle.replay_gate.specs.PassState.{pass_limit}
use Rattle.replay_gate.specs.Rule.{HasNumber, Holds, Knows, share_of, SomeHas, IsHome, Kept, IsServing}
use Rattle.replay_gate.specs.Stages.{HasTicket}
use Rattle.replay_gate.specs.Views.{first_view, At}
use Rattle.replay_gate.specs.Worn.{worn_at}
use lib.ListN.{get_elem?}
use Rattle.replay_gate.proofs.Totals.{at_same, total_two}
use Rattle.replay_gate.proofs.Histories.{any_by-append, only_of, of_itself, goes_on_same}
use Rattle.replay_gate.proofs.Stages.{holder_lives}

-- a list of one has one place
only_place : {A : Type 0} (a : A) (i : ℕ) (b : A) → get_elem? (a ∷ []) i ≡ some b → (i ≡ 0) × (a ≡ b)
only_place a zero b e = (refl, some-injective a b e)
only_place a (suc i) b e = absurd (some-ne-none b (sym e))

module _ {S : Type 0} (remembered : S → Remembered) (start passes : ℕ) where
  pub opens : (state : S) → Stands (remembered state) [] → 0 < passes → passes < pass_limit → start ≤ worn_at
      → Kept remembered start passes (opening (start ∷ start ∷ []) (state ∷ []) (first_view start passes))
  opens state stands_for several few begun =
      let v : View = first_view start passes in
      let one : (i : ℕ) (u : View) → At (v ∷ []) i u → (i ≡ 0) × (v ≡ u) = λ i u at. only_place v i u at in
      record {
        ticket = start;
        turn = start;
        history = [];
        words = refl;
        few = few;
        entries = omega arith;
        drawn = omega arith;
        room = omega arith;
        shares = omega arith;
        fits = record {
          each = λ i u at. subst (Knows start passes start start []) (one i u at).1 record {
            same_gate = λ _. (refl, refl);
            highest = omega arith;
            seen = goes_on_same (0 ∷ []) [];
            apart = λ number has unspent. let e = only_of 0 number has in let low = unspent.0 in omega arith;
            fresh = λ number unspent. refl;
            own = λ _. of_itself 0;
            living = λ number has. several;
            spares = λ more. omega arith;
            stage = tt;
          };
          one_owner = λ i j u w number at_i at_j _ _. (one i u at_i).0 ∙ sym (one j w at_j).0;
          one_holder = λ i j u w mine at_i at_j _ _. (one i u at_i).0 ∙ sym (one j w at_j).0;
          held = λ mine low high. absurd (omega arith);
        };
        made = λ number by. absurd (true≢false (sym by));
        home = inl record {
          state = state;
          homes = refl;
          stands_for = stands_for;
          nobody = λ i u mine at serves. let e : Resting ≡ Serving mine = ap (λ (z : View). z.stage) (one i u at).1 ∙ serves in cc;
        };
      }

  -- the pass that stands for all others has seen everything, and no other is in a call
  module _ (s : State S View) (kept : Kept remembered start passes s) (id : ℕ) (v : View) (at : At s.views id v) (rests : v.stage ≡ Resting)
      (all : v.share ≡ passes) where
    alone : (j : ℕ) (u : View) → At s.views j u → 0 < u.share → j ≡ id
    alone j u at_j alive = dite (ℕ_discrete j id) (λ e. e)
        (λ other. let h = total_two share_of s.views j id u v other at_j at in let t = kept.shares in absurd (omega arith))

    pub idle_home : IsHome remembered s kept.history
    idle_home = ⊎_elim (λ (h : IsHome remembered s kept.history). h)
        (λ (t : SomeHas IsServing s.views kept.turn).
        let his : Holds t.view kept.turn = subst (λ (z : Stage). HasTicket z kept.turn) (sym t.has) refl in
        let alive = holder_lives start passes kept.ticket kept.turn kept.history t.view kept.turn (kept.fits.each t.place t.view t.at) his in
        let same = at_same s.views t.place id t.view v (alone t.place t.view t.at alive) t.at at in
        let clash : Serving kept.turn ≡ Resting = sym t.has ∙ (ap (λ (z : View). z.stage) same ∙ rests) in cc)
        kept.home

    pub all_made : AreMadeBy v.numbers kept.history
    all_made number by =
        let m = kept.made number by in
        let alive = (kept.fits.each m.place m.view m.at).living number m.has in
        subst (λ (z : View). HasNumber z number) (at_same s.views m.place id m.view v (alone m.place m.view m.at alive) m.at at) m.has

    nothing_else : (others : List Event) → kept.history ≡ v.seen ++ others → any_by v.numbers others ≡ false → others ≡ []
    nothing_else [] is none = refl
    nothing_else (event ∷ events) is none =
        let number = maker event in
        let first : any_by (number ∷ []) (event ∷ events) ≡ true = ap (λ z. z || any_by (number ∷ []) events) (of_itself number) in
        let by : any_by (number ∷ []) kept.history ≡ true =
        ap (any_by (number ∷ [])) is ∙ (any_by-append (number ∷ []) v.seen (event ∷ events)
        ∙ (ap (λ z. any_by (number ∷ []) v.seen || z) first ∙ or-true (any_by (number ∷ []) v.seen))) in
        let mine : any_by v.numbers (event ∷ events) ≡ true = ap (λ z. z || any_by v.numbers events) (all_made number by) in
        absurd (true≢false (sym mine ∙ none))

    pub all_seen : kept.history ≡ v.seen
    all_seen =
        let seen = (kept.fits.each id v at).seen in
        seen.longer_is ∙ (ap (λ l. v.seen ++ l) (nothing_else seen.others seen.longer_is seen.of_others) ∙ append-nil v.seen)

    pub all_served : v.highest ≤ start + length v.seen
    all_served =
        let highest = (kept.fits.each id v at).highest in
        let entries = kept.entries in
        let drawn = kept.drawn in
        let same : length kept.history ≡ length v.seen = ap length all_seen in
        dite (ℕ_discrete kept.ticket kept.turn) (λ e. omega arith)
        (λ other.
        let h = kept.fits.held kept.turn (omega arith) (omega arith) in
        let alive = holder_lives start passes kept.ticket kept.turn kept.history h.view kept.turn (kept.fits.each h.place h.view h.at) h.has in
        let has : Holds v kept.turn = subst (λ (z : View). Holds z kept.turn) (at_same s.views h.place id h.view v (alone h.place h.view h.at alive) h.at at) h.has in
        let never : ⊥ = subst (λ (z : Stage). HasTicket z kept.turn) rests has in absurd never)

-- what a closed table shows
pub ends : {S : Type 0} (remembered : S → Remembered) (start passes id : ℕ) (v : View) (words : List ℕ) (slots : List S)
    → Final (Seen (Kept remembered start passes) id v) words slots → v.stage ≡ Resting → v.share ≡ passes
    → (state : S) → get_elem? slots 0 ≡ some state
    → Stands (remembered state) v.seen × (v.highest ≤ start + length v.seen) × AreMadeBy v.numbers v.seen
ends remembered start passes id v words slots final rests all state taken =
    let s = final.0 in
    let kept = final.1.0 in
    let at = final.1.1 in
    let home = idle_home remembered start passes s kept id v at rests all in
    let same = all_seen remembered start passes s kept id v at rests all in
    let there = final.4 0 home.state (ap (λ l. get_elem? l 0) home.homes) in
    let is : home.state ≡ state = some-injective home.state state (sym there ∙ taken) in (
      subst (Stands (remembered state)) same (subst (λ x. Stands (remembered x) kept.history) is home.stands_for),
      all_served remembered start passes s kept id v at rests all,
      subst (AreMadeBy v.numbers) same (all_made remembered start passes s kept id v at rests all),
    )
