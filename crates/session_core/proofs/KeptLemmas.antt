-- A state that keeps nothing below its floor goes on so.
use Rattle.std.proofs.Common.{◌≡◌, ℕ, ◌≤◌, true, max, List, [], ◌∷◌, ◌++◌, arith, inl, inr, sym, subst}
use Rattle.std.proofs.lemmas.Bool.{cases_lt, leb-true}
use Rattle.std.proofs.lemmas.List.Elements.{All-push, filter_passes}
use Rattle.std.proofs.lemmas.List.Sorted.{All-permutation}
use Rattle.std.specs.List.{All, filter}
use Rattle.std.specs.List.Sorted.{IsPermutation}
use Rattle.munge_types.specs.History.{floor as floor_of, accepted, verdict, with_accepted}
use Rattle.munge_types.specs.Live.{is_live}
use Rattle.munge_types.specs.StandsFor.{Remembered, Stands}
use Rattle.munge_types.specs.declared.history.Event.{Event}
use Rattle.munge_types.specs.declared.history.Event.TheVariants.{Admit, Purge}
use Rattle.munge_types.specs.declared.history.Verdict.{Verdict}
use Rattle.munge_types.specs.declared.history.Verdict.TheVariants.{Accepted, Expired, Replayed}
use Rattle.munge_types.specs.declared.pair.Pair.{Pair}
use Rattle.munge_types.proofs.HistoryLemmas.{verdict_among-expired}
use Rattle.session_core.specs.AllLive.{AllLive}

-- a pair that is accepted expires at the floor or later
pub accepted_live : (state : Remembered) (history : List Event) (pair : Pair) (moment : ℕ)
    → Stands state history → Accepted ≡ verdict history pair moment → state.floor ≤ pair.expiry
accepted_live state history pair moment stands said =
    elim (cases_lt pair.expiry (max moment (floor_of history))) [
      | inl below ↦ let expired = verdict_among-expired (floor_of history) (accepted history) pair moment below in cc
      | inr above ↦ omega (arith, stands.same_floor, above)
    ]

live_with : (said : Verdict) (state : Remembered) (new : List Pair) (history : List Event) (pair : Pair) (moment : ℕ)
    → Stands state history → said ≡ verdict history pair moment → IsPermutation (with_accepted said state.pairs pair) new
    → All (λ p. state.floor ≤ p.expiry) state.pairs → All (λ p. state.floor ≤ p.expiry) new
live_with Accepted state new history pair moment stands said same live =
    All-permutation (λ p. state.floor ≤ p.expiry) _ new same (All-push (λ p. state.floor ≤ p.expiry) state.pairs pair live (accepted_live state history pair moment stands said))
live_with Expired state new history pair moment stands said same live = All-permutation (λ p. state.floor ≤ p.expiry) _ new same live
live_with Replayed state new history pair moment stands said same live = All-permutation (λ p. state.floor ≤ p.expiry) _ new same live

-- what is left by a look-up
pub live_after_admit : (said : Verdict) (state new : Remembered) (pair : Pair) (moment : ℕ)
    → ((history : List Event) → Stands state history → said ≡ verdict history pair moment)
    → ((history : List Event) (pass : ℕ) → Stands state history → Stands new (history ++ Admit pass pair moment ∷ []))
    → IsPermutation (with_accepted said state.pairs pair) new.pairs
    → new.floor ≡ state.floor → AllLive state → AllLive new
live_after_admit said state new pair moment says stands same floor before =
    record {
      history = before.history ++ Admit 0 pair moment ∷ [];
      stands = stands before.history 0 before.stands;
      live = subst (λ n. All (λ p. n ≤ p.expiry) new.pairs) (sym floor)
          (live_with said state new.pairs before.history pair moment before.stands (says before.history before.stands) same before.live);
    }

-- what is left by a purge
pub live_after_purge : (state new : Remembered) (moment : ℕ)
    → ((history : List Event) (pass : ℕ) → Stands state history → Stands new (history ++ Purge pass moment ∷ []))
    → IsPermutation (filter (is_live new.floor) state.pairs) new.pairs → AllLive state → AllLive new
live_after_purge state new moment stands same before =
    let passes = All-permutation (λ p. is_live new.floor p ≡ true) _ new.pairs same (filter_passes (is_live new.floor) state.pairs) in
    record {
      history = before.history ++ Purge 0 moment ∷ [];
      stands = stands before.history 0 before.stands;
      live = λ k d h. leb-true _ _ (passes k d h);
    }
