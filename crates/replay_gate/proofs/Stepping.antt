-- Each step of a call keeps the rule.
use Rattle.std.proofs.Common.{◌≡◌, ℕ, ◌+◌, ◌%◌, ◌^◌, ◌≤◌, ◌<◌, nat_lt, Bool, true, false, cond, List, [], ◌∷◌, length, set, get_or, sym, ap, ◌∙◌, refl, subst, inl, inr, arith}
use Rattle.std.proofs.Math.Nat.{mod-eq_of_lt}
use Rattle.std.proofs.lemmas.Bool.{ltb-true}
use mathlib.Core.Logic.{dite}
use mathlib.Core.Option.{Option, some}
use native.Mathlib.Decide.{ℕ_discrete}
use Rattle.std.specs.List.{sum_by}
use Rattle.atomic_table.specs.Table.{State, Me, Act, keeps, Valid, homes_after, carried_after, Allows}
use Rattle.munge_types.specs.StandsFor.{Remembered}
use Rattle.munge_types.specs.declared.history.Event.{Event}
use Rattle.replay_gate.specs.declared.view.View.{View}
use Rattle.replay_gate.specs.declared.view.Stage.{Stage}
use Rattle.replay_gate.specs.declared.view.Stage.TheVariants.{Resting, Asking, Waiting, Serving}
use Rattle.replay_gate.specs.Rule.{Owns, Holds, asks, share_of, Kept}
use Rattle.replay_gate.specs.Stages.{HasTicket, asking, StageFits}
use Rattle.replay_gate.specs.Steps.{Asked, Drew}
use Rattle.replay_gate.specs.Views.{heard, at_stage, At}
use Rattle.replay_gate.specs.Worn.{worn_at}
use Rattle.replay_gate.proofs.Totals.{total_set, total_at, total_le}
use Rattle.replay_gate.proofs.Replaced.{Apart, HeldElse, replaced, held_else}
use Rattle.replay_gate.proofs.Stages.{asks_share, holds_within, knows_later}
use Rattle.replay_gate.proofs.Homes.{made_set, Placed, home_set}

-- ---- a pass that has read the ticket word

heard_room : (ticket sum passes : ℕ) → ticket + sum ≤ worn_at + passes → sum ≤ passes → (b : Bool) → (b ≡ true → ticket < worn_at)
    → ticket + (sum + asking (cond b Asking Resting)) ≤ worn_at + passes
heard_room ticket sum passes room few true below = let h = below refl in omega arith
heard_room ticket sum passes room few false below = omega arith

heard_fits : (ticket turn : ℕ) (history : List Event) (v : View) (b : Bool) → 0 < v.share → StageFits ticket turn history v (cond b Asking Resting)
heard_fits ticket turn history v true alive = alive
heard_fits ticket turn history v false alive = tt

heard_free : (b : Bool) (mine : ℕ) → HasTicket (cond b Asking Resting) mine → ⊥
heard_free true mine has = has
heard_free false mine has = has

heard_waits : (b : Bool) (mine : ℕ) → cond b Asking Resting ≡ Serving mine → ⊥
heard_waits true mine e = cc
heard_waits false mine e = cc

pub one_home : {S : Type 0} (homes : List (Option S)) (x : S) → length homes ≡ 1 → set homes 0 (some x) ≡ some x ∷ []
one_home [] x e = absurd (omega arith)
one_home (h ∷ []) x e = refl
one_home (h ∷ k ∷ ks) x e = absurd (omega arith)

module _ {S : Type 0} (remembered : S → Remembered) (start passes : ℕ) where
  abbrev pub Rule : State S View → Type 0
  Rule = Kept remembered start passes

  -- what a step asks, with the words given
  abbrev pub Goal : State S View → ℕ → Me S View → ℕ → (ℕ → ℕ) → (ℕ → Me S View → Type 0) → List ℕ → Type 0
  Goal s id me i f then words =
      (w : View) × (a : Act S) × Valid s.homes me.1 a
      × Rule record { words = set words i (f (get_or words i 0)); homes = homes_after s.homes me.1 a; views = set s.views id w }
      × then (get_or words i 0) (w, carried_after me.1 a)

  pub placed : (s : State S View) (kept : Rule s) → Placed remembered kept.turn kept.history s.words s.homes s.views
  placed s kept = kept.home

  pub few_asks : (s : State S View) (kept : Rule s) → sum_by asks s.views ≤ passes
  few_asks s kept =
      let h = total_le asks share_of s.views (λ i v at. asks_share start passes kept.ticket kept.turn kept.history v (kept.fits.each i v at)) in
      let t = kept.shares in omega arith

  -- a number stays apart from those of the others
  pub same_owner : (s : State S View) (kept : Rule s) (id : ℕ) (v w : View) → At s.views id v → ((number : ℕ) → Owns w number → Owns v number)
      → Apart Owns s.views id w
  same_owner s kept id v w at owns j u number other at_j mine his =
      other (kept.fits.one_owner j id u v number at_j at his (owns number mine))

  pub same_holder : (s : State S View) (kept : Rule s) (id : ℕ) (v w : View) → At s.views id v → ((mine : ℕ) → Holds w mine → Holds v mine)
      → Apart Holds s.views id w
  same_holder s kept id v w at holds j u mine other at_j has his =
      other (kept.fits.one_holder j id u v mine at_j at his (holds mine has))

  pub held_by_others : (s : State S View) (kept : Rule s) (id : ℕ) (v : View) (mine : ℕ) → At s.views id v → (Holds v mine → ⊥)
      → kept.turn ≤ mine → mine < kept.ticket → HeldElse s.views id mine
  held_by_others s kept id v mine at free low high =
      let h = kept.fits.held mine low high in held_else s.views id v mine at free h.place h.view h.at h.has

  -- ---- the ticket word is read

  asked : (s : State S View) (kept : Rule s) (id : ℕ) (v : View) → v.stage ≡ Resting → 0 < v.share → At s.views id v
      → Goal s id (v, []) 0 (λ n. n) (Asked (v, [])) (kept.ticket ∷ kept.turn ∷ [])
  asked s kept id v rests alive at =
      let knows = kept.fits.each id v at in
      let b = nat_lt kept.ticket worn_at in
      let w : View = heard kept.ticket v in
      let free : (mine : ℕ) → Holds v mine → ⊥ = λ mine has. subst (λ (z : Stage). HasTicket z mine) rests has in (
        w,
        keeps,
        tt,
        record {
          ticket = kept.ticket;
          turn = kept.turn;
          history = kept.history;
          words = refl;
          few = kept.few;
          entries = kept.entries;
          drawn = kept.drawn;
          room =
              (let sum = total_set asks s.views id v w at in
              let none : asks v ≡ 0 = ap asking rests in
              let h = heard_room kept.ticket (sum_by asks s.views) passes kept.room (few_asks s kept) b (ltb-true kept.ticket worn_at) in omega arith);
          shares = (let sum = total_set share_of s.views id v w at in let h = kept.shares in omega arith);
          fits = replaced start passes kept.ticket kept.turn kept.history kept.ticket kept.turn kept.history s.views id v w at kept.fits
              record {
                same_gate = knows.same_gate;
                highest = (omega arith);
                seen = knows.seen;
                apart = knows.apart;
                fresh = knows.fresh;
                own = knows.own;
                living = knows.living;
                spares = knows.spares;
                stage = heard_fits kept.ticket kept.turn kept.history w b alive;
              }
              (λ j u other at_j. kept.fits.each j u at_j)
              (same_owner s kept id v w at (λ number owns. owns))
              (λ j u mine other at_j has _. heard_free b mine has)
              (λ mine low high. inr (held_by_others s kept id v mine at (free mine) low high));
          made = λ number by. made_set s.views id v w number at (λ has. has) (kept.made number by);
          home = home_set remembered kept.turn kept.history s.words (kept.ticket ∷ kept.turn ∷ []) s.homes s.views id v w at
              (λ mine e. let clash = sym rests ∙ e in cc) (heard_waits b) (placed s kept);
        },
        record { not_below = knows.highest; after_is = refl },
      )

  pub asks_allowed : (slots id : ℕ) (v : View) → v.stage ≡ Resting → 0 < v.share
      → Allows Rule slots id (v, []) 0 (λ n. n) (Asked (v, []))
  asks_allowed slots id v rests alive s kept len at bound =
      subst (Goal s id (v, []) 0 (λ n. n) (Asked (v, []))) (sym kept.words) (asked s kept id v rests alive at)

  -- ---- a ticket is drawn

  drew : (s : State S View) (kept : Rule s) (id : ℕ) (v : View) → v.stage ≡ Asking → At s.views id v
      → Goal s id (v, []) 0 (λ n. (n + 1) % 2 ^ 64) (Drew (v, [])) (kept.ticket ∷ kept.turn ∷ [])
  drew s kept id v asked at =
      let knows = kept.fits.each id v at in
      let w : View = at_stage (Waiting kept.ticket) v in
      let one : asks v ≡ 1 = ap asking asked in
      let sum = total_set asks s.views id v w at in
      let mine = total_at asks s.views id v at in
      let room = kept.room in
      let few = kept.few in
      let drawn = kept.drawn in
      let alive : 0 < v.share = (let h = asks_share start passes kept.ticket kept.turn kept.history v knows in omega arith) in
      let next : (kept.ticket + 1) % 2 ^ 64 ≡ kept.ticket + 1 = mod-eq_of_lt (omega arith) in
      let free : (mine : ℕ) → Holds v mine → ⊥ = λ mine has. subst (λ (z : Stage). HasTicket z mine) asked has in (
        w,
        keeps,
        tt,
        record {
          ticket = kept.ticket + 1;
          turn = kept.turn;
          history = kept.history;
          words = ap (λ n. n ∷ kept.turn ∷ []) next;
          few = kept.few;
          entries = kept.entries;
          drawn = omega arith;
          room = omega arith;
          shares = (let sum = total_set share_of s.views id v w at in let h = kept.shares in omega arith);
          fits = replaced start passes kept.ticket kept.turn kept.history (kept.ticket + 1) kept.turn kept.history s.views id v w at kept.fits
              record {
                same_gate = knows.same_gate;
                highest = (let h = knows.highest in omega arith);
                seen = knows.seen;
                apart = knows.apart;
                fresh = knows.fresh;
                own = knows.own;
                living = knows.living;
                spares = knows.spares;
                stage = record { alive = alive; not_served = drawn; drawn = omega arith };
              }
              (λ j u other at_j. knows_later start passes kept.ticket kept.turn kept.history (kept.ticket + 1) u (omega arith) (kept.fits.each j u at_j))
              (same_owner s kept id v w at (λ number owns. owns))
              (λ j u mine other at_j has his. let h = holds_within start passes kept.ticket kept.turn kept.history u mine (kept.fits.each j u at_j) his in
              let same : kept.ticket ≡ mine = has in omega arith)
              (λ mine low high. dite (ℕ_discrete kept.ticket mine) (λ e. inl e)
              (λ other. inr (held_by_others s kept id v mine at (free mine) low (omega arith))));
          made = λ number by. made_set s.views id v w number at (λ has. has) (kept.made number by);
          home = home_set remembered kept.turn kept.history s.words (((kept.ticket + 1) % 2 ^ 64) ∷ kept.turn ∷ []) s.homes s.views id v w at
              (λ mine e. let clash = sym asked ∙ e in cc) (λ mine e. cc) (placed s kept);
        },
        record { fits = omega arith; after_is = refl },
      )

  pub draws_allowed : (slots id : ℕ) (v : View) → v.stage ≡ Asking
      → Allows Rule slots id (v, []) 0 (λ n. (n + 1) % 2 ^ 64) (Drew (v, []))
  draws_allowed slots id v asked s kept len at bound =
      subst (Goal s id (v, []) 0 (λ n. (n + 1) % 2 ^ 64) (Drew (v, []))) (sym kept.words) (drew s kept id v asked at)
