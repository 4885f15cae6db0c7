-- How many pairs a state keeps, where it keeps none below its floor.
use Rattle.std.proofs.Common.{◌≡◌, ℕ, max, true, ◌&&◌, List, [], ◌∷◌, ◌++◌, length, ap, sym, ◌∙◌}
use Rattle.std.proofs.lemmas.Bool.{leb-true, le-leb}
use Rattle.std.proofs.lemmas.List.Sorted.{list_any-IsPermutation}
use Rattle.std.proofs.lemmas.List.Sums.{length-filter}
use Rattle.std.proofs.lemmas.Map.Made.{length-from_same_keys}
use Rattle.std.specs.Cmp.{first_so, second_so}
use Rattle.std.specs.List.{list_any, filter, count_by}
use Rattle.std.specs.List.Sorted.{IsPermutation}
use Rattle.munge_types.proofs.Distinct.{both_true, IsDistinct-filter}
use Rattle.munge_types.proofs.HistoryLemmas.{accepted-distinct}
use Rattle.munge_types.proofs.PairLemmas.{pair_eq-equiv}
use Rattle.munge_types.proofs.StandsForLemmas.{IsAmong-filter, stands_after_filter}
use Rattle.munge_types.specs.History.{accepted}
use Rattle.munge_types.specs.Live.{is_live, live}
use Rattle.munge_types.specs.Pair.{pair_eq}
use Rattle.munge_types.specs.StandsFor.{IsAmong, StandsFor}
use Rattle.munge_types.specs.declared.pair.Pair.{Pair}
use Rattle.munge_types.specs.declared.history.Event.{Event}
use Rattle.munge_types.specs.declared.history.Event.TheVariants.{Purge}

-- a state that stands for a history and keeps live pairs alone keeps as many as the history has
pub length-live : (floor : ℕ) (kept : List Pair) (history : List Event) → StandsFor floor kept history
    → ((pair : Pair) → IsAmong kept pair → is_live floor pair ≡ true) → length kept ≡ live history
length-live floor kept history stands all_live =
    length-from_same_keys pair_eq-equiv kept (filter (is_live floor) (accepted history)) stands.once
    (IsDistinct-filter pair_eq (is_live floor) (accepted history) (accepted-distinct history))
    (λ pair. both_true _ _
    (λ among. IsAmong-filter (is_live floor) (accepted history) pair
    ∙ ap (λ live. live && list_any (pair_eq pair) (accepted history)) (all_live pair among)
    ∙ stands.was_accepted pair among)
    (λ among.
    let both : (is_live floor pair && list_any (pair_eq pair) (accepted history)) ≡ true = sym (IsAmong-filter (is_live floor) (accepted history) pair) ∙ among in
    stands.keeps pair (second_so (is_live floor pair) _ both) (leb-true floor pair.expiry (first_so (is_live floor pair) _ both))))
    ∙ length-filter (is_live floor) (accepted history)
    ∙ ap (λ moment. count_by (is_live moment) (accepted history)) stands.same_floor

-- after a purge that left nothing below the floor, as many are kept as are live
pub live_after_purge : (floor : ℕ) (kept new : List Pair) (history : List Event) (pass moment : ℕ)
    → IsPermutation (filter (is_live (max moment floor)) kept) new
    → StandsFor floor kept history → length new ≡ live (history ++ Purge pass moment ∷ [])
live_after_purge floor kept new history pass moment permutation stands =
    length-live (max moment floor) new (history ++ Purge pass moment ∷ [])
    (stands_after_filter (is_live (max moment floor)) floor kept new history pass moment (λ pair above. le-leb _ _ above) permutation stands)
    (λ pair among. first_so (is_live (max moment floor) pair) _
    (sym (IsAmong-filter (is_live (max moment floor)) kept pair)
    ∙ list_any-IsPermutation (pair_eq pair) (filter (is_live (max moment floor)) kept) new permutation ∙ among))
