-- What has to hold of a pass at its stage, and as tickets are drawn and entries made.
use Rattle.std.proofs.Common.{◌≡◌, ◌≢◌, ℕ, ◌+◌, ◌≤◌, ◌<◌, false, List, [], ◌∷◌, ◌++◌, sym, ◌∙◌, refl, arith, subst}
use Rattle.munge_types.specs.declared.history.Event.{Event}
use Rattle.replay_gate.specs.declared.view.View.{View}
use Rattle.replay_gate.specs.declared.view.Stage.{Stage}
use Rattle.replay_gate.specs.declared.view.Stage.TheVariants.{Resting, Asking, Waiting, Serving, Meeting}
use Rattle.replay_gate.specs.Makers.{maker, is_of, any_by}
use Rattle.replay_gate.specs.Rule.{IsUnspent, Holds, asks, Knows}
use Rattle.replay_gate.specs.Stages.{HasTicket, asking, StageFits}
use Rattle.replay_gate.proofs.Histories.{not_true, both_false, any_by-append, only_of, goes_on_entry}

module _ (ticket turn : ℕ) (history : List Event) where
  -- who is about to draw a ticket has a share
  stage_shares : (v : View) (stage : Stage) → StageFits ticket turn history v stage → asking stage ≤ v.share
  stage_shares v Resting fits = omega arith
  stage_shares v Asking fits = omega arith
  stage_shares v (Waiting mine) fits = let alive = fits.alive in omega arith
  stage_shares v (Serving mine) fits = let alive = fits.alive in omega arith
  stage_shares v (Meeting first second) fits = let alive = fits.alive in omega arith

  -- a pass that is in a call has a share
  stage_lives : (v : View) (stage : Stage) (mine : ℕ) → StageFits ticket turn history v stage → HasTicket stage mine → 0 < v.share
  stage_lives v Resting other fits has = absurd has
  stage_lives v Asking other fits has = absurd has
  stage_lives v (Meeting first second) other fits has = absurd has
  stage_lives v (Waiting mine) other fits has = fits.alive
  stage_lives v (Serving mine) other fits has = fits.alive

  -- a ticket was drawn and not yet served
  stage_within : (v : View) (stage : Stage) (mine : ℕ) → StageFits ticket turn history v stage → HasTicket stage mine
      → (turn ≤ mine) × (mine < ticket)
  stage_within v Resting other fits has = absurd has
  stage_within v Asking other fits has = absurd has
  stage_within v (Meeting first second) other fits has = absurd has
  stage_within v (Waiting mine) other fits has = let low = fits.not_served in let high = fits.drawn in (omega arith, omega arith)
  stage_within v (Serving mine) other fits has = let low = fits.has_turn in let high = fits.drawn in (omega arith, omega arith)

  stage_later : (later : ℕ) (v : View) (stage : Stage) → ticket ≤ later → StageFits ticket turn history v stage
      → StageFits later turn history v stage
  stage_later later v Resting more fits = tt
  stage_later later v Asking more fits = fits
  stage_later later v (Waiting mine) more fits = let high = fits.drawn in record { alive = fits.alive; not_served = fits.not_served; drawn = omega arith }
  stage_later later v (Serving mine) more fits = let high = fits.drawn in record { alive = fits.alive; has_turn = fits.has_turn; drawn = omega arith; whole = fits.whole }
  stage_later later v (Meeting first second) more fits = fits

  stage_entry : (entry : Event) (v : View) (stage : Stage) → (HasTicket stage turn → ⊥) → StageFits ticket turn history v stage
      → StageFits ticket (turn + 1) (history ++ entry ∷ []) v stage
  stage_entry entry v Resting other fits = tt
  stage_entry entry v Asking other fits = fits
  stage_entry entry v (Waiting mine) other fits =
      let low = fits.not_served in
      let apart : mine ≢ turn = other in record { alive = fits.alive; not_served = omega arith; drawn = fits.drawn }
  stage_entry entry v (Serving mine) other fits = absurd (other fits.has_turn)
  stage_entry entry v (Meeting first second) other fits = fits

module _ (start passes ticket turn : ℕ) (history : List Event) where
  abbrev Known : View → Type 0
  Known = Knows start passes ticket turn history

  pub asks_share : (v : View) → Known v → asks v ≤ v.share
  asks_share v knows = stage_shares ticket turn history v v.stage knows.stage

  pub holder_lives : (v : View) (mine : ℕ) → Known v → Holds v mine → 0 < v.share
  holder_lives v mine knows holds = stage_lives ticket turn history v v.stage mine knows.stage holds

  pub holds_within : (v : View) (mine : ℕ) → Known v → Holds v mine → (turn ≤ mine) × (mine < ticket)
  holds_within v mine knows holds = stage_within ticket turn history v v.stage mine knows.stage holds

  -- a ticket more was drawn
  pub knows_later : (later : ℕ) (v : View) → ticket ≤ later → Known v → Knows start passes later turn history v
  knows_later later v more knows = record {
    same_gate = knows.same_gate;
    highest = (let h = knows.highest in omega arith);
    seen = knows.seen;
    apart = knows.apart;
    fresh = knows.fresh;
    own = knows.own;
    living = knows.living;
    spares = knows.spares;
    stage = stage_later ticket turn history later v v.stage more knows.stage;
  }

  -- an unspent number has no entry, also after an entry by another
  pub fresh_entry : (entry : Event) (v : View) → (IsUnspent v (maker entry) → ⊥) → Known v
      → (number : ℕ) → IsUnspent v number → any_by (number ∷ []) (history ++ entry ∷ []) ≡ false
  fresh_entry entry v other knows number unspent =
      any_by-append (number ∷ []) history (entry ∷ [])
      ∙ both_false _ _ (knows.fresh number unspent)
      (both_false _ _ (not_true _ (λ same. other (subst (IsUnspent v) (sym (only_of number (maker entry) same)) unspent))) refl)

  -- another pass made an entry
  pub knows_entry : (entry : Event) (v : View) → is_of v.numbers (maker entry) ≡ false → (IsUnspent v (maker entry) → ⊥)
      → (Holds v turn → ⊥) → Known v → Knows start passes ticket (turn + 1) (history ++ entry ∷ []) v
  knows_entry entry v other unspent waits knows = record {
    same_gate = knows.same_gate;
    highest = knows.highest;
    seen = goes_on_entry v.numbers v.seen history entry other knows.seen;
    apart = knows.apart;
    fresh = fresh_entry entry v unspent knows;
    own = knows.own;
    living = knows.living;
    spares = knows.spares;
    stage = stage_entry ticket turn history entry v v.stage waits knows.stage;
  }
