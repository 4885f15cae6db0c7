-- Cutting a pass in two and taking one in keep the rule.
use Rattle.std.proofs.Common.{◌≡◌, ◌≢◌, ℕ, ◌+◌, ◌-◌, ◌≤◌, ◌<◌, nat_lt, Bool, true, false, cond, ◌||◌, List, [], ◌∷◌, ◌++◌, length, set, zero, suc, sym, ap, ◌∙◌, refl, subst, ◌⊎◌, inl, inr, ⊎_elim, arith}
use Rattle.std.proofs.lemmas.Bool.{ltb-true, ltb-false}
use Rattle.std.proofs.Math.Bool.{or-true}
use mathlib.Core.Logic.{dite}
use native.Mathlib.Decide.{ℕ_discrete}
use Rattle.std.proofs.lemmas.List.Sums.{sum_by_push}
use Rattle.atomic_table.proofs.Lists.{at_set, set_here, set_else}
use Rattle.atomic_table.specs.Table.{State, keeps, Allows, Splits, Joins}
use Rattle.munge_types.specs.StandsFor.{Remembered}
use Rattle.munge_types.specs.declared.history.Event.{Event}
use Rattle.replay_gate.specs.declared.view.View.{View}
use Rattle.replay_gate.specs.declared.view.Part.{Part}
use Rattle.replay_gate.specs.declared.view.Stage.{Stage}
use Rattle.replay_gate.specs.declared.view.Stage.TheVariants.{Resting, Meeting}
use Rattle.replay_gate.specs.GoesOn.{GoesOn}
use Rattle.replay_gate.specs.Makers.{is_of, IsOf}
use Rattle.replay_gate.specs.Rule.{HasNumber, IsUnspent, Owns, Holds, asks, share_of}
use Rattle.replay_gate.specs.Stages.{HasTicket, asking, StageFits}
use Rattle.replay_gate.specs.Steps.{Met}
use Rattle.replay_gate.specs.Views.{at_stage, left_part, given_part, merged, gone, At}
use Rattle.replay_gate.proofs.Totals.{at_length, at_same, total_set, total_at}
use Rattle.replay_gate.proofs.Histories.{one_of, is_of-append, only_of, of_itself, goes_on_fresh, goes_on_same, goes_on_none, fronts, goes_on_both}
use Rattle.replay_gate.proofs.Replaced.{replaced, added}
use Rattle.replay_gate.proofs.Homes.{Waits, made_set, made_push, home_set, home_push}
use Rattle.replay_gate.proofs.Stepping.{Rule, Goal, same_owner, held_by_others}

set_swap : {A : Type 0} (l : List A) (i j : ℕ) (a b : A) → i ≢ j → set (set l i a) j b ≡ set (set l j b) i a
set_swap [] i j a b ne = refl
set_swap (x ∷ xs) zero zero a b ne = absurd (ne refl)
set_swap (x ∷ xs) zero (suc j) a b ne = refl
set_swap (x ∷ xs) (suc i) zero a b ne = refl
set_swap (x ∷ xs) (suc i) (suc j) a b ne = ap (λ l. x ∷ l) (set_swap xs i j a b (λ e. ne (ap suc e)))

-- the longer of two fronts of one history
longer_front : (numbers others : List ℕ) (first second history : List Event) (b : Bool) → (b ≡ true → length first < length second)
    → (b ≡ false → length second ≤ length first) → GoesOn numbers first history → GoesOn others second history
    → let longer = cond b second first in
    GoesOn numbers first longer × GoesOn others second longer × GoesOn numbers longer history × GoesOn others longer history
longer_front numbers others first second history true short long one two =
    let h = fronts numbers others first second history one two (let l = short refl in omega arith) in
    (h.0, goes_on_same others second, h.1, two)
longer_front numbers others first second history false short long one two =
    let h = fronts others numbers second first history two one (long refl) in
    (goes_on_same numbers first, h.0, one, h.1)

waits_at : (v : View) → v.stage ≡ Resting → Waits v
waits_at v rests mine e = let clash = sym rests ∙ e in cc

module _ {S : Type 0} (remembered : S → Remembered) (start passes : ℕ) where
  free_at : (v : View) → v.stage ≡ Resting → (mine : ℕ) → Holds v mine → ⊥
  free_at v rests mine has = subst (λ (z : Stage). HasTicket z mine) rests has

  -- ---- a pass is cut in two

  pub splits_allowed : (id : ℕ) (v : View) (count : ℕ) → v.stage ≡ Resting → 0 < count → count ≤ v.spare
      → Splits (Rule remembered start passes) id v (left_part count v) (given_part count v)
  splits_allowed id v count rests some_given within s kept at =
      let knows = kept.fits.each id v at in
      let left : View = left_part count v in
      let right : View = given_part count v in
      let views = set s.views id left in
      let spares = knows.spares (omega arith) in
      let alive : 0 < v.share = omega arith in
      let none : asks v ≡ 0 = ap asking rests in
      let from_left : (number : ℕ) → Owns left number → Owns v number =
      λ number owns. ⊎_elim (λ (h : is_of v.numbers number ≡ true). inl h)
      (λ (h : IsUnspent left number). let low = h.0 in let high = h.1 in inr (low, omega arith)) owns in
      let from_right : (number : ℕ) → Owns right number → IsUnspent v number × (v.number + v.spare - count < number) =
      λ number owns. ⊎_elim
      (λ (h : is_of (right.number ∷ []) number ≡ true). let e = only_of right.number number h in ((omega arith, omega arith), omega arith))
      (λ (h : IsUnspent right number). let low = h.0 in let high = h.1 in ((omega arith, omega arith), omega arith)) owns in
      let fits = replaced start passes kept.ticket kept.turn kept.history kept.ticket kept.turn kept.history s.views id v left at kept.fits
      record {
        same_gate = λ _. knows.same_gate alive;
        highest = knows.highest;
        seen = knows.seen;
        apart = λ number has unspent. knows.apart number has (let low = unspent.0 in let high = unspent.1 in (low, omega arith));
        fresh = λ number unspent. knows.fresh number (let low = unspent.0 in let high = unspent.1 in (low, omega arith));
        own = λ _. knows.own alive;
        living = λ number has. omega arith;
        spares = λ more. omega arith;
        stage = subst (StageFits kept.ticket kept.turn kept.history left) (sym rests) tt;
      }
      (λ j u other at_j. kept.fits.each j u at_j)
      (same_owner remembered start passes s kept id v left at from_left)
      (λ j u mine other at_j has _. free_at v rests mine has)
      (λ mine low high. inr (held_by_others remembered start passes s kept id v mine at (free_at v rests mine) low high)) in
      record {
        ticket = kept.ticket;
        turn = kept.turn;
        history = kept.history;
        words = kept.words;
        few = kept.few;
        entries = kept.entries;
        drawn = kept.drawn;
        room =
            (let sum = total_set asks s.views id v left at in
            let push = sum_by_push asks views right in
            let h = kept.room in omega arith);
        shares =
            (let sum = total_set share_of s.views id v left at in
            let push = sum_by_push share_of views right in
            let h = kept.shares in omega arith);
        fits = added start passes kept.ticket kept.turn kept.history views right fits
            record {
              same_gate = λ _. knows.same_gate alive;
              highest = knows.highest;
              seen = goes_on_fresh right.number v.numbers v.seen kept.history (knows.fresh right.number (omega arith, omega arith)) knows.seen;
              apart = λ number has unspent. let e = only_of right.number number has in let low = unspent.0 in omega arith;
              fresh = λ number unspent. knows.fresh number (let low = unspent.0 in let high = unspent.1 in (omega arith, omega arith));
              own = λ _. of_itself right.number;
              living = λ number has. some_given;
              spares = λ more. omega arith;
              stage = subst (StageFits kept.ticket kept.turn kept.history right) (sym rests) tt;
            }
            (λ j u number at_j mine his.
            let his_own = from_right number mine in
            ⊎_elim
            (λ (t : (j ≡ id) × (left ≡ u)). ⊎_elim
            (λ (h : is_of v.numbers number ≡ true). knows.apart number h his_own.0)
            (λ (h : IsUnspent left number). let high = h.1 in let low = his_own.1 in omega arith)
            (subst (λ (z : View). Owns z number) (sym t.1) his))
            (λ (t : (j ≢ id) × At s.views j u). t.0 (kept.fits.one_owner j id u v number t.1 at his (inr his_own.0)))
            (at_set s.views id j left u at_j))
            (λ mine has. free_at v rests mine has);
        made = λ number by. made_push views right number (made_set s.views id v left number at (λ has. has) (kept.made number by));
        home = home_push remembered kept.turn kept.history s.words s.words s.homes views right (waits_at right rests)
            (home_set remembered kept.turn kept.history s.words s.words s.homes s.views id v left at (waits_at v rests) (waits_at left rests) kept.home);
      }

  -- ---- a pass takes another in

  pub joins_allowed : (id : ℕ) (v : View) (other : ℕ) (w : View) → v.stage ≡ Resting → w.stage ≡ Resting → 0 < v.share
      → Joins (Rule remembered start passes) id v other w (merged v w) gone
  joins_allowed id v other w rests rests_too alive s kept at ne at_both =
      let both : View = merged v w in
      let at_w : At s.views other w = sym (set_else s.views id other both ne) ∙ at_both in
      let without = set s.views other gone in
      let at_v : At without id v = set_else s.views other id gone (λ e. ne (sym e)) ∙ at in
      let swapped : set without id both ≡ set (set s.views id both) other gone = set_swap s.views other id gone both ne in
      let knows = kept.fits.each id v at in
      let knows_w = kept.fits.each other w at_w in
      let b = nat_lt (length v.seen) (length w.seen) in
      let fronts = longer_front v.numbers w.numbers v.seen w.seen kept.history b (ltb-true _ _) (ltb-false _ _) knows.seen knows_w.seen in
      let from_both : (number : ℕ) → Owns both number → Owns v number ⊎ Owns w number =
      λ number owns. ⊎_elim
      (λ (h : is_of (v.numbers ++ w.numbers) number ≡ true). one_of (is_of v.numbers number) (is_of w.numbers number) (Owns v number ⊎ Owns w number)
      (sym (is_of-append v.numbers w.numbers number) ∙ h) (λ has. inl (inl has)) (λ has. inr (inl has)))
      (λ (h : IsUnspent v number). inl (inr h)) owns in
      let fits_without = replaced start passes kept.ticket kept.turn kept.history kept.ticket kept.turn kept.history s.views other w gone at_w kept.fits
      record {
        same_gate = λ h. absurd (omega arith);
        highest = omega arith;
        seen = goes_on_none [] kept.history;
        apart = λ number has unspent. cc;
        fresh = λ number unspent. let low = unspent.0 in let high = unspent.1 in absurd (omega arith);
        own = λ h. absurd (omega arith);
        living = λ number has. cc;
        spares = λ h. omega arith;
        stage = tt;
      }
      (λ j u apart at_j. kept.fits.each j u at_j)
      (λ j u number apart at_j owns _. ⊎_elim (λ (h : false ≡ true). cc) (λ (h : IsUnspent gone number). let low = h.0 in let high = h.1 in omega arith) owns)
      (λ j u mine apart at_j has _. has)
      (λ mine low high. inr (held_by_others remembered start passes s kept other w mine at_w (free_at w rests_too mine) low high)) in
      let nobody_else : (j : ℕ) (u : View) (number : ℕ) → j ≢ id → At without j u → Owns both number → Owns u number → ⊥ =
      λ j u number apart at_j mine his. ⊎_elim
      (λ (t : (j ≡ other) × (gone ≡ u)). ⊎_elim (λ (h : false ≡ true). let z : ⊥ = cc in z) (λ (h : IsUnspent gone number). let low = h.0 in let high = h.1 in let z : ⊥ = omega arith in z)
      (subst (λ (z : View). Owns z number) (sym t.1) his))
      (λ (t : (j ≢ other) × At s.views j u). ⊎_elim
      (λ (h : Owns v number). apart (kept.fits.one_owner j id u v number t.1 at his h))
      (λ (h : Owns w number). t.0 (kept.fits.one_owner j other u w number t.1 at_w his h))
      (from_both number mine))
      (at_set s.views other j gone u at_j) in
      let fits = replaced start passes kept.ticket kept.turn kept.history kept.ticket kept.turn kept.history without id v both at_v fits_without
      record {
        same_gate = λ _. knows.same_gate alive;
        highest = (let h = knows.highest in let k = knows_w.highest in omega arith);
        seen = goes_on_both v.numbers w.numbers both.seen kept.history fronts.2 fronts.3;
        apart = λ number has unspent. one_of (is_of v.numbers number) (is_of w.numbers number) ⊥
            (sym (is_of-append v.numbers w.numbers number) ∙ has)
            (λ h. knows.apart number h unspent)
            (λ h. ne (kept.fits.one_owner other id w v number at_w at (inl h) (inr unspent)));
        fresh = knows.fresh;
        own = λ _. is_of-append v.numbers w.numbers v.number ∙ ap (λ z. z || is_of w.numbers v.number) (knows.own alive);
        living = λ number has. omega arith;
        spares = λ more. let h = knows.spares more in omega arith;
        stage = record {
          alive = omega arith;
          first_goes_on = fronts.0;
          second_goes_on = fronts.1;
          apart = λ number mine his. ne (kept.fits.one_owner other id w v number at_w at (inl his) (inl mine));
        };
      }
      (λ j u apart at_j. fits_without.each j u at_j)
      nobody_else
      (λ j u mine apart at_j has _. has)
      (λ mine low high. let h = fits_without.held mine low high in
      inr (h.place, h.view, (λ e. free_at v rests mine (subst (λ (z : View). Holds z mine) (at_same without h.place id h.view v e h.at at_v) h.has)), h.at, h.has)) in
      subst (λ (z : List View). Rule remembered start passes (record { words = s.words; homes = s.homes; views = z })) swapped
      record {
        ticket = kept.ticket;
        turn = kept.turn;
        history = kept.history;
        words = kept.words;
        few = kept.few;
        entries = kept.entries;
        drawn = kept.drawn;
        room =
            (let first = total_set asks s.views other w gone at_w in
            let second = total_set asks without id v both at_v in
            let none : asks v ≡ 0 = ap asking rests in
            let nor : asks w ≡ 0 = ap asking rests_too in
            let h = kept.room in omega arith);
        shares =
            (let first = total_set share_of s.views other w gone at_w in
            let second = total_set share_of without id v both at_v in
            let h = kept.shares in omega arith);
        fits = fits;
        made = λ number by. let m = kept.made number by in
            let here = set_here without id both (at_length without id v at_v) in
            dite (ℕ_discrete m.place id)
            (λ e. record {
              place = id;
              view = both;
              at = here;
              has = is_of-append v.numbers w.numbers number
                  ∙ ap (λ z. z || is_of w.numbers number) (subst (λ (z : View). HasNumber z number) (at_same s.views m.place id m.view v e m.at at) m.has);
            })
            (λ apart. dite (ℕ_discrete m.place other)
            (λ e. record {
              place = id;
              view = both;
              at = here;
              has = is_of-append v.numbers w.numbers number
                  ∙ (ap (λ z. is_of v.numbers number || z) (subst (λ (z : View). HasNumber z number) (at_same s.views m.place other m.view w e m.at at_w) m.has) ∙ or-true (is_of v.numbers number));
            })
            (λ away. record {
              place = m.place;
              view = m.view;
              at = set_else without id m.place both apart ∙ (set_else s.views other m.place gone away ∙ m.at);
              has = m.has;
            }));
        home = home_set remembered kept.turn kept.history s.words s.words s.homes without id v both at_v (waits_at v rests) (λ mine e. cc)
            (home_set remembered kept.turn kept.history s.words s.words s.homes s.views other w gone at_w (waits_at w rests_too) (λ mine e. cc) kept.home);
      }

  -- ---- what two passes had seen is compared

  compared : (s : State S View) (kept : Rule remembered start passes s) (id : ℕ) (v : View) (first second : Part) → v.stage ≡ Meeting first second → At s.views id v
      → Goal remembered start passes s id (v, []) 0 (λ n. n) (λ found. Met (v, [])) (kept.ticket ∷ kept.turn ∷ [])
  compared s kept id v first second meets at =
      let knows = kept.fits.each id v at in
      let w : View = at_stage Resting v in
      let free : (mine : ℕ) → Holds v mine → ⊥ = λ mine has. subst (λ (z : Stage). HasTicket z mine) meets has in
      let fits = subst (StageFits kept.ticket kept.turn kept.history v) meets knows.stage in (
        w,
        keeps,
        tt,
        record {
          ticket = kept.ticket;
          turn = kept.turn;
          history = kept.history;
          words = refl;
          few = kept.few;
          entries = kept.entries;
          drawn = kept.drawn;
          room = (let sum = total_set asks s.views id v w at in let none : asks v ≡ 0 = ap asking meets in let h = kept.room in omega arith);
          shares = (let sum = total_set share_of s.views id v w at in let h = kept.shares in omega arith);
          fits = replaced start passes kept.ticket kept.turn kept.history kept.ticket kept.turn kept.history s.views id v w at kept.fits
              record {
                same_gate = knows.same_gate;
                highest = knows.highest;
                seen = knows.seen;
                apart = knows.apart;
                fresh = knows.fresh;
                own = knows.own;
                living = knows.living;
                spares = knows.spares;
                stage = tt;
              }
              (λ j u other at_j. kept.fits.each j u at_j)
              (same_owner remembered start passes s kept id v w at (λ number owns. owns))
              (λ j u mine other at_j has _. has)
              (λ mine low high. inr (held_by_others remembered start passes s kept id v mine at (free mine) low high));
          made = λ number by. made_set s.views id v w number at (λ has. has) (kept.made number by);
          home = home_set remembered kept.turn kept.history s.words (kept.ticket ∷ kept.turn ∷ []) s.homes s.views id v w at
              (λ mine e. let clash = sym meets ∙ e in cc) (λ mine e. cc) kept.home;
        },
        λ one two same. let parts = sym meets ∙ same in
            let is_one : first ≡ one = cc in
            let is_two : second ≡ two = cc in
            record {
              after_is = refl;
              first_goes_on = subst (λ (z : Part). GoesOn z.numbers z.seen v.seen) is_one fits.first_goes_on;
              second_goes_on = subst (λ (z : Part). GoesOn z.numbers z.seen v.seen) is_two fits.second_goes_on;
              apart = λ number mine his. fits.apart number (subst (λ (z : Part). IsOf z.numbers number) (sym is_one) mine)
                  (subst (λ (z : Part). IsOf z.numbers number) (sym is_two) his);
              few =
                  (let share = total_at share_of s.views id v at in
                  let all = kept.shares in
                  let few = kept.few in omega arith);
            },
      )

  pub compares_allowed : (slots id : ℕ) (v : View) (first second : Part) → v.stage ≡ Meeting first second
      → Allows (Rule remembered start passes) slots id (v, []) 0 (λ n. n) (λ found. Met (v, []))
  compares_allowed slots id v first second meets s kept len at bound =
      subst (Goal remembered start passes s id (v, []) 0 (λ n. n) (λ found. Met (v, []))) (sym kept.words) (compared s kept id v first second meets at)
