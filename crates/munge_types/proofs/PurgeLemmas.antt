-- What a purge owes that drops no more distinct expiries than its slice.
use Rattle.std.proofs.Common.{◌≡◌, ℕ, ◌+◌, ◌<◌, ◌≤◌, min, max, Bool, true, false, not, cond, nat_eq, nat_le, List, [], ◌∷◌, ◌++◌, map, sym, ◌∙◌, ap, refl, arith, inl, inr}
use Rattle.std.proofs.lemmas.Bool.{cases_lt, le-leb, lt-leb, leb-true, leb-false, lt-ltb, le-ltb, eq-eqb, ne_eqb, or_from, or_left, or_right, and_from, and_left, and_right, not_from_true, not_from_false}
use Rattle.std.specs.List.{AllByRecursion, list_any, filter, fold}
use Rattle.std.specs.List.Sorted.{IsPermutation}
use Rattle.munge_types.proofs.ExpiryLemmas.{expiries_below-le, expiries_below-mono, expiries_below-strict, expiries_below-level, expiries_below-next}
use Rattle.munge_types.proofs.StandsForLemmas.{stands_after_filter}
use Rattle.munge_types.specs.Live.{is_live}
use Rattle.munge_types.specs.Purge.{expiries_below, is_dropped, purged}
use Rattle.munge_types.specs.StandsFor.{StandsFor}
use Rattle.munge_types.specs.declared.pair.Pair.{Pair}
use Rattle.munge_types.specs.declared.history.Event.{Event}
use Rattle.munge_types.specs.declared.history.Event.TheVariants.{Purge}

-- ---- a bound that parts what is dropped from what is kept

-- so many distinct expiries are below the cut, which are all that a purge drops
pub record IsCut (floor slice cut count : ℕ) (kept : List Pair) : Type 0 where
  pub within : cut ≤ floor
  pub counted : expiries_below cut kept ≡ count
  pub most : count ≤ slice
  pub all : count < slice → expiries_below floor kept ≡ count

dropped_below : (floor slice cut count : ℕ) (kept : List Pair) (pair : Pair) → IsCut floor slice cut count kept
    → list_any (λ other. nat_eq pair.expiry other.expiry) kept ≡ true
    → not (is_dropped floor slice kept pair) ≡ nat_le cut pair.expiry
dropped_below floor slice cut count kept pair is among =
    elim (cases_lt pair.expiry cut) [
      | inl under ↦
          let few : expiries_below pair.expiry kept < slice = omega (arith, is.counted, is.most, expiries_below-strict pair.expiry cut kept among under) in
          not_from_true _ (and_from _ _ (lt-ltb _ _ (omega (arith, is.within))) (lt-ltb _ _ few)) ∙ sym (lt-leb _ _ under)
      | inr over ↦
          elim (cases_lt pair.expiry floor) [
            | inl below ↦
                let many : slice ≤ expiries_below pair.expiry kept = enough over below in
                not_from_false _ (and_right _ _ (le-ltb _ _ many)) ∙ sym (le-leb _ _ over)
            | inr above ↦ not_from_false _ (and_left _ _ (le-ltb _ _ above)) ∙ sym (le-leb _ _ over)
          ]
    ]
  where
    enough : cut ≤ pair.expiry → pair.expiry < floor → slice ≤ expiries_below pair.expiry kept
    enough over below =
        elim (cases_lt count slice) [
          | inl less ↦ absurd (omega (arith, is.counted, is.all less, expiries_below-mono cut pair.expiry kept over, expiries_below-strict pair.expiry floor kept among below))
          | inr all ↦ omega (arith, is.counted, expiries_below-mono cut pair.expiry kept over, all)
        ]

filter_same : (p q : Pair → Bool) (pairs : List Pair) → AllByRecursion (λ pair. p pair ≡ q pair) pairs → filter p pairs ≡ filter q pairs
filter_same p q [] same = refl
filter_same p q (pair ∷ pairs) same =
    ap (λ t. cond t (pair ∷ filter p pairs) (filter p pairs)) same.0
    ∙ ap (λ rest. cond (q pair) (pair ∷ rest) rest) (filter_same p q pairs same.1)

-- each pair is among all, and then has the property
each : (P : Pair → Type 0) (all pairs : List Pair)
    → ((pair : Pair) → list_any (λ other. nat_eq pair.expiry other.expiry) all ≡ true → P pair)
    → ((pair : Pair) → list_any (λ other. nat_eq pair.expiry other.expiry) pairs ≡ true → list_any (λ other. nat_eq pair.expiry other.expiry) all ≡ true)
    → AllByRecursion P pairs
each P all [] has part = tt
each P all (pair ∷ pairs) has part = (
  has pair (part pair (or_left (nat_eq pair.expiry pair.expiry) (list_any (λ other. nat_eq pair.expiry other.expiry) pairs) (eq-eqb pair.expiry pair.expiry refl))),
  each P all pairs has (λ sought among. part sought (or_right (nat_eq sought.expiry pair.expiry) (list_any (λ other. nat_eq sought.expiry other.expiry) pairs) among)),
)

-- what a purge leaves, by such a cut
pub purged-cut : (floor slice cut count : ℕ) (kept : List Pair) → IsCut floor slice cut count kept
    → purged floor slice kept ≡ filter (is_live cut) kept
purged-cut floor slice cut count kept is =
    filter_same _ (is_live cut) kept
    (each (λ pair. not (is_dropped floor slice kept pair) ≡ is_live cut pair) kept kept
    (λ pair among. dropped_below floor slice cut count kept pair is among) (λ pair among. among))

-- a purge whose slice is no less than the distinct expiries below the floor leaves the live pairs
pub purged-all : (floor slice : ℕ) (kept : List Pair) → expiries_below floor kept ≤ slice
    → purged floor slice kept ≡ filter (is_live floor) kept
purged-all floor slice kept enough =
    purged-cut floor slice floor (expiries_below floor kept) kept
    (record { within = omega arith; counted = refl; most = enough; all = λ less. refl })

-- ---- what a replay structure owes

-- it stands for the history and the purge
pub stands_after_purge : (slice floor : ℕ) (kept new : List Pair) (history : List Event) (pass moment : ℕ)
    → IsPermutation (purged (max moment floor) slice kept) new
    → StandsFor floor kept history → StandsFor (max moment floor) new (history ++ Purge pass moment ∷ [])
stands_after_purge slice floor kept new history pass moment =
    stands_after_filter (λ pair. not (is_dropped (max moment floor) slice kept pair)) floor kept new history pass moment
    (λ pair above. not_from_false _ (and_left _ _ (le-ltb _ _ above)))

-- where nothing is left below the floor, it keeps the live pairs
pub live_where_none_left : (floor slice left : ℕ) (kept new : List Pair) → left + min (expiries_below floor kept) slice ≡ expiries_below floor kept
    → left ≡ 0 → IsPermutation (purged floor slice kept) new → IsPermutation (filter (is_live floor) kept) new
live_where_none_left floor slice left kept new counted none same =
    let enough : expiries_below floor kept ≤ slice = omega arith in
    rw (purged-all floor slice kept enough) at same

-- a slice that is no less than the floor leaves nothing
pub none_left : (floor slice left : ℕ) (kept : List Pair) → left + min (expiries_below floor kept) slice ≡ expiries_below floor kept
    → floor ≤ slice → left ≡ 0
none_left floor slice left kept counted enough = omega (arith, expiries_below-le floor kept)

-- ---- the next expiry

-- it is the least expiry from this one on and below the bound, or the bound where there is none
pub record IsNext (from bound : ℕ) (pairs : List Pair) (next : ℕ) : Type 0 where
  pub low : from ≤ next
  pub high : next ≤ bound
  pub none : (e : ℕ) → from ≤ e → e < next → list_any (λ pair. nat_eq e pair.expiry) pairs ≡ false
  pub found : next < bound → list_any (λ pair. nat_eq next pair.expiry) pairs ≡ true

next_or_here : (from bound next : ℕ) (pair : Pair) (pairs : List Pair) → from ≤ pair.expiry
    → IsNext from (min bound pair.expiry) pairs next → IsNext from bound (pair ∷ pairs) next
next_or_here from bound next pair pairs above is = record {
  low = is.low;
  high = omega (arith, is.high);
  none = λ e low under. or_from _ _ (ne_eqb _ _ (λ same. omega (arith, is.high))) (is.none e low under);
  found = λ less. elim (cases_lt next (min bound pair.expiry)) [
    | inl earlier ↦ or_right _ _ (is.found earlier)
    | inr here ↦ or_left (nat_eq next pair.expiry) _ (eq-eqb next pair.expiry (omega (arith, is.high, here)))
  ];
}

next_past : (from bound next : ℕ) (pair : Pair) (pairs : List Pair) → pair.expiry < from
    → IsNext from bound pairs next → IsNext from bound (pair ∷ pairs) next
next_past from bound next pair pairs under is = record {
  low = is.low;
  high = is.high;
  none = λ e low less. or_from _ _ (ne_eqb _ _ (λ same. omega arith)) (is.none e low less);
  found = λ less. or_right _ _ (is.found less);
}

next_by : (from bound : ℕ) (pair : Pair) (pairs : List Pair) (later : List ℕ) (passes : Bool) → passes ≡ nat_le from pair.expiry
    → (from ≤ pair.expiry → IsNext from (min bound pair.expiry) pairs (fold min (min bound pair.expiry) later))
    → IsNext from bound pairs (fold min bound later)
    → IsNext from bound (pair ∷ pairs) (fold min bound (cond passes (pair.expiry ∷ later) later))
next_by from bound pair pairs later true is here past =
    let above : from ≤ pair.expiry = leb-true _ _ (sym is) in next_or_here from bound _ pair pairs above (here above)
next_by from bound pair pairs later false is here past = next_past from bound _ pair pairs (leb-false _ _ (sym is)) past

pub next_is : (from bound : ℕ) (pairs : List Pair) → from ≤ bound
    → IsNext from bound pairs (fold min bound (filter (nat_le from) (map (λ (pair : Pair). pair.expiry) pairs)))
next_is from bound [] within = record { low = within; high = omega arith; none = λ e low less. refl; found = λ less. absurd (omega arith) }
next_is from bound (pair ∷ pairs) within =
    next_by from bound pair pairs (filter (nat_le from) (map (λ (other : Pair). other.expiry) pairs)) (nat_le from pair.expiry) refl
    (λ above. next_is from (min bound pair.expiry) pairs (omega arith)) (next_is from bound pairs within)

-- one distinct expiry more is below the moment after the next expiry
pub counted_to_next : (from bound next : ℕ) (pairs : List Pair) → IsNext from bound pairs next → next < bound
    → expiries_below (next + 1) pairs ≡ expiries_below from pairs + 1
counted_to_next from bound next pairs is less =
    let one : cond {A = ℕ} (list_any (λ pair. nat_eq next pair.expiry) pairs) 1 0 ≡ 1 = ap (λ t. cond t 1 0) (is.found less) in
    omega (arith, expiries_below-next next pairs, one, expiries_below-level from next pairs is.low (record { none = is.none }))

-- none more is below the bound, where no expiry comes before it
pub counted_to_bound : (from bound next : ℕ) (pairs : List Pair) → IsNext from bound pairs next → bound ≤ next
    → expiries_below bound pairs ≡ expiries_below from pairs
counted_to_bound from bound next pairs is none =
    expiries_below-level from bound pairs (omega (arith, is.low, is.high)) (record { none = λ e low less. is.none e low (omega arith) })
