-- A state that stands for a history answers as the history does, and goes on standing for it over each
-- event and over any order of the kept pairs.
use Rattle.std.proofs.Common.{◌≡◌, ℕ, max, ◌≤◌, nat_lt, Bool, true, false, ◌&&◌, ◌||◌, cond, List, [], ◌∷◌, ◌++◌, ap, sym, ◌∙◌, refl, arith}
use Rattle.std.proofs.lemmas.Bool.{ltb-false}
use Rattle.std.proofs.lemmas.List.Folds.{list_any-append}
use Rattle.std.proofs.lemmas.List.Sorted.{list_any-IsPermutation}
use Rattle.std.proofs.lemmas.Map.Keys.{IsDistinct-IsPermutation}
use Rattle.std.proofs.lemmas.Map.Views.{any-filter_same}
use Rattle.std.specs.Cmp.{second_so}
use Rattle.std.specs.List.{list_any, filter, IsDistinct}
use Rattle.std.specs.List.Sorted.{IsPermutation}
use Rattle.munge_types.proofs.Distinct.{both_true, IsDistinct-filter}
use Rattle.munge_types.proofs.HistoryLemmas.{floor-admit, floor-purge, floor-idle, accepted-admit, accepted-purge, accepted-idle, IsDistinct-with_accepted}
use Rattle.munge_types.proofs.PairLemmas.{pair_eq-equiv, pair_eq-Decides}
use Rattle.munge_types.specs.History.{verdict_among, with_accepted, accepted, verdict}
use Rattle.munge_types.specs.Pair.{pair_eq}
use Rattle.munge_types.specs.StandsFor.{IsAmong, StandsFor}
use Rattle.munge_types.specs.declared.pair.Pair.{Pair}
use Rattle.munge_types.specs.declared.history.Event.{Event}
use Rattle.munge_types.specs.declared.history.Event.TheVariants.{Admit, Purge, Idle}
use Rattle.munge_types.specs.declared.history.Verdict.{Verdict}
use Rattle.munge_types.specs.declared.history.Verdict.TheVariants.{Accepted, Expired, Replayed}

-- a floor of 0 and no pair stand for the empty history
pub StandsFor-empty : StandsFor 0 [] []
unfolding IsDistinct
StandsFor-empty = record { same_floor = refl; keeps = λ pair among above. among; was_accepted = λ pair among. among; once = tt }

-- ---- one verdict

-- a pair that has not fallen below the floor is kept exactly where it was accepted
pub kept-accepted : (floor : ℕ) (kept : List Pair) (history : List Event) (pair : Pair) → StandsFor floor kept history
    → floor ≤ pair.expiry → list_any (pair_eq pair) kept ≡ list_any (pair_eq pair) (accepted history)
kept-accepted floor kept history pair stands above =
    both_true _ _ (stands.was_accepted pair) (λ among. stands.keeps pair among above)

-- the verdict by the floor and the kept pairs is the verdict by the history
pub verdict_among-kept : (floor : ℕ) (kept : List Pair) (history : List Event) (pair : Pair) (moment : ℕ)
    → StandsFor floor kept history → verdict_among floor kept pair moment ≡ verdict history pair moment
verdict_among-kept floor kept history pair moment stands =
    decided (nat_lt pair.expiry (max moment floor)) (λ h. let above : max moment floor ≤ pair.expiry = ltb-false _ _ h in
    kept-accepted floor kept history pair stands (omega arith))
    ∙ ap (λ moments. verdict_among moments (accepted history) pair moment) stands.same_floor
  where
    decided : (expired : Bool) → (expired ≡ false → list_any (pair_eq pair) kept ≡ list_any (pair_eq pair) (accepted history))
        → cond expired Expired (cond (list_any (pair_eq pair) kept) Replayed Accepted)
        ≡ cond expired Expired (cond (list_any (pair_eq pair) (accepted history)) Replayed Accepted)
    decided true same = refl
    decided false same = ap (λ found. cond found Replayed Accepted) (same refl)

-- ---- over an event

-- what is among the one list of pairs is among the other, also where a verdict adds to both
IsAmong-with_accepted : (said : Verdict) (pairs others : List Pair) (pair sought : Pair)
    → (IsAmong pairs sought → IsAmong others sought)
    → IsAmong (with_accepted said pairs pair) sought → IsAmong (with_accepted said others pair) sought
IsAmong-with_accepted Accepted pairs others pair sought goes among =
    rw (list_any-append (pair_eq sought) others (pair ∷ []))
    (either (list_any (pair_eq sought) pairs) _ _ goes (rw (list_any-append (pair_eq sought) pairs (pair ∷ [])) at among))
  where
    either : (a b c : Bool) → (a ≡ true → b ≡ true) → (a || c) ≡ true → (b || c) ≡ true
    either true b c h found = ap (λ x. x || c) (h refl)
    either false true c h found = refl
    either false false c h found = found
IsAmong-with_accepted Expired pairs others pair sought goes among = goes among
IsAmong-with_accepted Replayed pairs others pair sought goes among = goes among

-- over a look-up
pub StandsFor-admit : (floor : ℕ) (kept : List Pair) (history : List Event) (pass : ℕ) (pair : Pair) (moment : ℕ)
    → StandsFor floor kept history
    → StandsFor floor (with_accepted (verdict history pair moment) kept pair) (history ++ Admit pass pair moment ∷ [])
StandsFor-admit floor kept history pass pair moment stands = record {
  same_floor = stands.same_floor ∙ sym (floor-admit history pass pair moment);
  keeps = λ sought among above. IsAmong-with_accepted (verdict history pair moment) (accepted history) kept pair sought
      (λ was. stands.keeps sought was above)
      (rw (accepted-admit history pass pair moment) at among);
  was_accepted = λ sought among. rw (accepted-admit history pass pair moment)
      (IsAmong-with_accepted (verdict history pair moment) kept (accepted history) pair sought (stands.was_accepted sought) among);
  once = IsDistinct-with_accepted _ floor kept pair moment (verdict_among-kept floor kept history pair moment stands) stands.once;
}

-- whether a pair is among those that pass a test
pub IsAmong-filter : (test : Pair → Bool) (pairs : List Pair) (pair : Pair)
    → list_any (pair_eq pair) (filter test pairs) ≡ (test pair && list_any (pair_eq pair) pairs)
IsAmong-filter test pairs pair =
    any-filter_same (pair_eq pair) test (test pair) (λ other same. ap test (sym ((pair_eq-Decides pair other).0 same))) pairs

-- over a purge that keeps what passes a test, as each pair that has not fallen below the new floor does
pub StandsFor-purge : (test : Pair → Bool) (floor : ℕ) (kept : List Pair) (history : List Event) (pass moment : ℕ)
    → ((pair : Pair) → max moment floor ≤ pair.expiry → test pair ≡ true)
    → StandsFor floor kept history
    → StandsFor (max moment floor) (filter test kept) (history ++ Purge pass moment ∷ [])
StandsFor-purge test floor kept history pass moment spares stands = record {
  same_floor = ap (max moment) stands.same_floor ∙ sym (floor-purge history pass moment);
  keeps = λ pair among above.
      let was : IsAmong (accepted history) pair = rw (accepted-purge history pass moment) at among in
      let still : IsAmong kept pair = stands.keeps pair was (omega arith) in
      IsAmong-filter test kept pair ∙ ap (λ passes. passes && list_any (pair_eq pair) kept) (spares pair above) ∙ still;
  was_accepted = λ pair among. rw (accepted-purge history pass moment)
      (stands.was_accepted pair (second_so (test pair) _ (sym (IsAmong-filter test kept pair) ∙ among)));
  once = IsDistinct-filter pair_eq test kept stands.once;
}

-- over an idle event
pub StandsFor-idle : (floor : ℕ) (kept : List Pair) (history : List Event) (pass : ℕ)
    → StandsFor floor kept history → StandsFor floor kept (history ++ Idle pass ∷ [])
StandsFor-idle floor kept history pass stands = record {
  same_floor = stands.same_floor ∙ sym (floor-idle history pass);
  keeps = λ pair among. stands.keeps pair (rw (accepted-idle history pass) at among);
  was_accepted = λ pair among. rw (accepted-idle history pass) (stands.was_accepted pair among);
  once = stands.once;
}

-- over a change of order
pub StandsFor-IsPermutation : (floor : ℕ) (kept others : List Pair) (history : List Event)
    → IsPermutation kept others → StandsFor floor kept history → StandsFor floor others history
StandsFor-IsPermutation floor kept others history permutation stands = record {
  same_floor = stands.same_floor;
  keeps = λ pair among above.
      sym (list_any-IsPermutation (pair_eq pair) kept others permutation) ∙ stands.keeps pair among above;
  was_accepted = λ pair among.
      stands.was_accepted pair (list_any-IsPermutation (pair_eq pair) kept others permutation ∙ among);
  once = IsDistinct-IsPermutation pair_eq pair_eq-equiv.symm kept others permutation stands.once;
}

-- ---- what a replay structure owes

-- it kept, in some order, what the verdict by its floor and its kept pairs makes of these
pub stands_after_admit : (floor : ℕ) (kept new : List Pair) (history : List Event) (pass : ℕ) (pair : Pair) (moment : ℕ)
    → IsPermutation (with_accepted (verdict_among floor kept pair moment) kept pair) new
    → StandsFor floor kept history → StandsFor floor new (history ++ Admit pass pair moment ∷ [])
stands_after_admit floor kept new history pass pair moment permutation stands =
    StandsFor-IsPermutation floor _ new (history ++ Admit pass pair moment ∷ [])
    (rw (verdict_among-kept floor kept history pair moment stands) at permutation)
    (StandsFor-admit floor kept history pass pair moment stands)

-- it kept, in some order, what passes a test, as each pair that has not fallen below the new floor does
pub stands_after_filter : (test : Pair → Bool) (floor : ℕ) (kept new : List Pair) (history : List Event) (pass moment : ℕ)
    → ((pair : Pair) → max moment floor ≤ pair.expiry → test pair ≡ true)
    → IsPermutation (filter test kept) new
    → StandsFor floor kept history → StandsFor (max moment floor) new (history ++ Purge pass moment ∷ [])
stands_after_filter test floor kept new history pass moment spares permutation stands =
    StandsFor-IsPermutation (max moment floor) _ new (history ++ Purge pass moment ∷ []) permutation
    (StandsFor-purge test floor kept history pass moment spares stands)
