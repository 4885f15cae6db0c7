-- A pass that comes to its turn, adds its entry, and gives the turn up, keeps the rule.
use Rattle.std.proofs.Common.{◌≡◌, ◌≢◌, ℕ, ◌+◌, ◌%◌, ◌^◌, true, false, List, [], ◌∷◌, ◌++◌, length, set, sym, ap, ◌∙◌, refl, subst, inl, inr, ⊎_elim, arith, length-append}
use Rattle.std.proofs.Math.Nat.{mod-eq_of_lt}
use mathlib.Core.Logic.{dite}
use mathlib.Core.Option.{Option, some}
use native.Mathlib.Decide.{ℕ_discrete}
use lib.ListN.{get_elem?}
use Rattle.atomic_table.proofs.Lists.{at_set, set_here, set_again}
use Rattle.atomic_table.specs.Table.{State, keeps, takes, gives, Allows}
use Rattle.munge_types.specs.StandsFor.{Remembered, Stands}
use Rattle.munge_types.specs.declared.history.Event.{Event}
use Rattle.replay_gate.specs.declared.view.View.{View}
use Rattle.replay_gate.specs.declared.view.Stage.{Stage}
use Rattle.replay_gate.specs.declared.view.Stage.TheVariants.{Resting, Waiting, Serving}
use Rattle.replay_gate.specs.GoesOn.{GoesOn}
use Rattle.replay_gate.specs.Makers.{maker, is_of, IsOf, any_by}
use Rattle.replay_gate.specs.Rule.{IsUnspent, Holds, asks, share_of, SomeHas, IsHome, IsServing}
use Rattle.replay_gate.specs.Stages.{HasTicket, asking, StageFits}
use Rattle.replay_gate.specs.Steps.{Looked, Left}
use Rattle.replay_gate.specs.Views.{serving, entered, At}
use Rattle.replay_gate.proofs.Totals.{at_length, at_same, total_set}
use Rattle.replay_gate.proofs.Histories.{not_true, one_of, any_by-append, only_of, goes_on_same}
use Rattle.replay_gate.proofs.Replaced.{replaced}
use Rattle.replay_gate.proofs.Stages.{holder_lives, holds_within, fresh_entry, knows_entry}
use Rattle.replay_gate.proofs.Homes.{IsMade, made_set}
use Rattle.replay_gate.proofs.Stepping.{Rule, Goal, same_owner, same_holder, held_by_others, one_home}

module _ {S : Type 0} (remembered : S → Remembered) (start passes : ℕ) where
  -- ---- the serving word is read

  -- the ticket's turn has come, so no other pass has it, and the state is at home
  is_home : (s : State S View) (kept : Rule remembered start passes s) (id : ℕ) (v : View) → v.stage ≡ Waiting kept.turn → At s.views id v
      → IsHome remembered s kept.history
  is_home s kept id v waits at =
      ⊎_elim (λ (h : IsHome remembered s kept.history). h)
      (λ (t : SomeHas IsServing s.views kept.turn).
      let his : Holds t.view kept.turn = subst (λ (z : Stage). HasTicket z kept.turn) (sym t.has) refl in
      let mine : Holds v kept.turn = subst (λ (z : Stage). HasTicket z kept.turn) (sym waits) refl in
      let same : t.place ≡ id = kept.fits.one_holder t.place id t.view v kept.turn t.at at his mine in
      let stage : t.view.stage ≡ v.stage = ap (λ (z : View). z.stage) (at_same s.views t.place id t.view v same t.at at) in
      let clash : Serving kept.turn ≡ Waiting kept.turn = sym t.has ∙ (stage ∙ waits) in cc)
      kept.home

  came : (s : State S View) (kept : Rule remembered start passes s) (id : ℕ) (v : View) → v.stage ≡ Waiting kept.turn → At s.views id v
      → Goal remembered start passes s id (v, []) 1 (λ n. n) (Looked remembered (v, [])) (kept.ticket ∷ kept.turn ∷ [])
  came s kept id v waits at =
      let knows = kept.fits.each id v at in
      let home = is_home s kept id v waits at in
      let w : View = serving kept.turn kept.history v in
      let mine : Holds v kept.turn = subst (λ (z : Stage). HasTicket z kept.turn) (sym waits) refl in
      let within = holds_within start passes kept.ticket kept.turn kept.history v kept.turn knows mine in
      let alive = holder_lives start passes kept.ticket kept.turn kept.history v kept.turn knows mine in
      let begun = (knows.same_gate alive).0 in
      let back : (ticket : ℕ) → Holds w ticket → Holds v ticket = λ ticket has. subst (λ (z : Stage). HasTicket z ticket) (sym waits) has in
      let forth : (ticket : ℕ) → Holds v ticket → Holds w ticket = λ ticket has. subst (λ (z : Stage). HasTicket z ticket) waits has in (
        w,
        takes 0 home.state,
        subst (λ (z : List (Option S)). get_elem? z 0 ≡ some (some home.state)) (sym home.homes) refl,
        record {
          ticket = kept.ticket;
          turn = kept.turn;
          history = kept.history;
          words = refl;
          few = kept.few;
          entries = kept.entries;
          drawn = kept.drawn;
          room =
              (let sum = total_set asks s.views id v w at in
              let before : asks v ≡ 0 = ap asking waits in
              let h = kept.room in omega arith);
          shares = (let sum = total_set share_of s.views id v w at in let h = kept.shares in omega arith);
          fits = replaced start passes kept.ticket kept.turn kept.history kept.ticket kept.turn kept.history s.views id v w at kept.fits
              record {
                same_gate = knows.same_gate;
                highest = knows.highest;
                seen = goes_on_same v.numbers kept.history;
                apart = knows.apart;
                fresh = knows.fresh;
                own = knows.own;
                living = knows.living;
                spares = knows.spares;
                stage = record { alive = alive; has_turn = refl; drawn = within.1; whole = refl };
              }
              (λ j u other at_j. kept.fits.each j u at_j)
              (same_owner remembered start passes s kept id v w at (λ number owns. owns))
              (same_holder remembered start passes s kept id v w at back)
              (λ ticket low high. dite (ℕ_discrete kept.turn ticket) (λ e. inl e)
              (λ other. inr (held_by_others remembered start passes s kept id v ticket at (λ has. other (forth ticket has)) low high)));
          made = λ number by. made_set s.views id v w number at (λ has. has) (kept.made number by);
          home = inr record { place = id; view = w; at = set_here s.views id w (at_length s.views id v at); has = refl };
        },
        record {
          turn = λ _. record {
            history = kept.history;
            state = home.state;
            after_is = refl;
            stands_for = home.stands_for;
            goes_on = knows.seen;
            place = (let e = kept.entries in omega arith);
          };
          no_turn = λ other. absurd (other waits);
        },
      )

  stayed : (s : State S View) (kept : Rule remembered start passes s) (id : ℕ) (v : View) → v.stage ≢ Waiting kept.turn → At s.views id v
      → Goal remembered start passes s id (v, []) 1 (λ n. n) (Looked remembered (v, [])) (kept.ticket ∷ kept.turn ∷ [])
  stayed s kept id v other at = (
    v,
    keeps,
    tt,
    subst (λ (z : List View). Rule remembered start passes (record { words = kept.ticket ∷ kept.turn ∷ []; homes = s.homes; views = z })) (sym (set_again s.views id v at))
        (subst (λ (z : List ℕ). Rule remembered start passes (record { words = z; homes = s.homes; views = s.views })) kept.words kept),
    record { turn = λ waits. absurd (other waits); no_turn = λ _. refl },
  )

  pub looks_allowed : (slots id : ℕ) (v : View) (mine : ℕ) → v.stage ≡ Waiting mine
      → Allows (Rule remembered start passes) slots id (v, []) 1 (λ n. n) (Looked remembered (v, []))
  looks_allowed slots id v mine waits s kept len at bound =
      subst (Goal remembered start passes s id (v, []) 1 (λ n. n) (Looked remembered (v, []))) (sym kept.words)
      (dite (ℕ_discrete mine kept.turn) (λ e. came s kept id v (waits ∙ ap Waiting e) at)
      (λ other. stayed s kept id v (λ e. let same : Waiting mine ≡ Waiting kept.turn = sym waits ∙ e in let n : mine ≡ kept.turn = cc in other n) at))

  -- ---- the turn is given up

  left : (s : State S View) (kept : Rule remembered start passes s) (id : ℕ) (v : View) (x : S) (entry : Event) → v.stage ≡ Serving kept.turn
      → v.seen ≡ kept.history → Stands (remembered x) (v.seen ++ entry ∷ []) → maker entry ≡ v.number → length s.homes ≡ 1 → At s.views id v
      → Goal remembered start passes s id (v, (0, x) ∷ []) 1 (λ n. (n + 1) % 2 ^ 64) (λ found. Left entry (v, (0, x) ∷ [])) (kept.ticket ∷ kept.turn ∷ [])
  left s kept id v x entry serves whole stands_for by one at =
      let knows = kept.fits.each id v at in
      let w : View = entered entry v in
      let mine : Holds v kept.turn = subst (λ (z : Stage). HasTicket z kept.turn) (sym serves) refl in
      let within = holds_within start passes kept.ticket kept.turn kept.history v kept.turn knows mine in
      let alive = holder_lives start passes kept.ticket kept.turn kept.history v kept.turn knows mine in
      let room = kept.room in
      let few = kept.few in
      let next : (kept.turn + 1) % 2 ^ 64 ≡ kept.turn + 1 = mod-eq_of_lt (omega arith) in
      let longer = kept.history ++ entry ∷ [] in
      let own : is_of v.numbers (maker entry) ≡ true = subst (λ (z : ℕ). is_of v.numbers z ≡ true) (sym by) (knows.own alive) in
      let unspent : IsUnspent v (maker entry) → ⊥ = λ h. let low = h.0 in omega arith in
      let forth : (ticket : ℕ) → Holds v ticket → kept.turn ≡ ticket = λ ticket has. subst (λ (z : Stage). HasTicket z ticket) serves has in
      let others : (j : ℕ) (u : View) → j ≢ id → At s.views j u → Holds u kept.turn → ⊥ =
      λ j u other at_j his. other (kept.fits.one_holder j id u v kept.turn at_j at his mine) in (
        w,
        gives,
        tt,
        record {
          ticket = kept.ticket;
          turn = kept.turn + 1;
          history = longer;
          words = ap (λ n. kept.ticket ∷ n ∷ []) next;
          few = kept.few;
          entries = (let e = kept.entries in let l = length-append kept.history (entry ∷ []) in omega arith);
          drawn = (let h = within.1 in omega arith);
          room =
              (let sum = total_set asks s.views id v w at in
              let before : asks v ≡ 0 = ap asking serves in omega arith);
          shares = (let sum = total_set share_of s.views id v w at in let h = kept.shares in omega arith);
          fits = replaced start passes kept.ticket kept.turn kept.history kept.ticket (kept.turn + 1) longer s.views id v w at kept.fits
              record {
                same_gate = knows.same_gate;
                highest = knows.highest;
                seen = subst (λ (z : List Event). GoesOn v.numbers (v.seen ++ entry ∷ []) (z ++ entry ∷ [])) whole (goes_on_same v.numbers (v.seen ++ entry ∷ []));
                apart = knows.apart;
                fresh = fresh_entry start passes kept.ticket kept.turn kept.history entry v unspent knows;
                own = knows.own;
                living = knows.living;
                spares = knows.spares;
                stage = tt;
              }
              (λ j u other at_j. knows_entry start passes kept.ticket kept.turn kept.history entry u
              (not_true _ (λ has. other (kept.fits.one_owner j id u v (maker entry) at_j at (inl has) (inl own))))
              (λ has. other (kept.fits.one_owner j id u v (maker entry) at_j at (inr has) (inl own)))
              (others j u other at_j)
              (kept.fits.each j u at_j))
              (same_owner remembered start passes s kept id v w at (λ number owns. owns))
              (λ j u ticket other at_j has _. has)
              (λ ticket low high. inr (held_by_others remembered start passes s kept id v ticket at (λ has. let e = forth ticket has in omega arith) (omega arith) high));
          made = λ number any. one_of (any_by (number ∷ []) kept.history) (any_by (number ∷ []) (entry ∷ [])) (IsMade (set s.views id w) number)
              (sym (any_by-append (number ∷ []) kept.history (entry ∷ [])) ∙ any)
              (λ before. made_set s.views id v w number at (λ has. has) (kept.made number before))
              (λ now. record {
                place = id;
                view = w;
                at = set_here s.views id w (at_length s.views id v at);
                has = subst (IsOf v.numbers)
                    (only_of number (maker entry) (one_of (is_of (number ∷ []) (maker entry)) false (IsOf (number ∷ []) (maker entry)) now (λ e. e) (λ e. cc))) own;
              });
          home = inl record {
            state = x;
            homes = one_home s.homes x one;
            stands_for = subst (λ (z : List Event). Stands (remembered x) (z ++ entry ∷ [])) whole stands_for;
            nobody = λ j u ticket at_j his. ⊎_elim
                (λ (t : (j ≡ id) × (w ≡ u)). let clash : Resting ≡ Serving ticket = ap (λ (z : View). z.stage) t.1 ∙ his in cc)
                (λ (t : (j ≢ id) × At s.views j u).
                let fits = kept.fits.each j u t.1 in
                let same : ticket ≡ kept.turn = (subst (StageFits kept.ticket kept.turn kept.history u) his fits.stage).has_turn in
                others j u t.0 t.1 (subst (λ (z : Stage). HasTicket z kept.turn) (sym his) same))
                (at_set s.views id j w u at_j);
          };
        },
        refl,
      )

  pub leaves_allowed : (slots id : ℕ) (v : View) (mine : ℕ) (x : S) (entry : Event) → v.stage ≡ Serving mine → Stands (remembered x) (v.seen ++ entry ∷ [])
      → maker entry ≡ v.number → slots ≡ 1
      → Allows (Rule remembered start passes) slots id (v, (0, x) ∷ []) 1 (λ n. (n + 1) % 2 ^ 64) (λ found. Left entry (v, (0, x) ∷ []))
  leaves_allowed slots id v mine x entry serves stands_for by one s kept len at bound =
      let fits = subst (StageFits kept.ticket kept.turn kept.history v) serves (kept.fits.each id v at).stage in
      subst (Goal remembered start passes s id (v, (0, x) ∷ []) 1 (λ n. (n + 1) % 2 ^ 64) (λ found. Left entry (v, (0, x) ∷ []))) (sym kept.words)
      (left s kept id v x entry (serves ∙ ap Serving fits.has_turn) fits.whole stands_for by (len ∙ one) at)
