-- Pairs in groups by their expiry.
use Rattle.std.proofs.Common.{◌≡◌, ℕ, zero, suc, ◌+◌, ◌<◌, ◌≤◌, min, Bool, true, false, not, ◌&&◌, ◌||◌, cond, nat_eq, nat_lt, nat_le, Some, None, List, [], ◌∷◌, ◌++◌, length, drop, append_assoc, ap, sym, ◌∙◌, refl, subst, arith, length-append, inl, inr}
use Rattle.std.proofs.lemmas.Bool.{cases_lt, eqb-true, ltb-true, eq-eqb, ne_eqb, or_left, or_from, ltb-false, eqb-false, lt-ltb, le-ltb, le-leb, lt-leb}
use Rattle.std.proofs.lemmas.Bool.Decides.{nat_tests}
use Rattle.std.proofs.Math.Bool.{or-false}
use Rattle.std.proofs.lemmas.List.{map-append}
use Rattle.std.proofs.lemmas.List.Elements.{filter-append}
use Rattle.std.proofs.lemmas.List.Folds.{list_any-append}
use Rattle.std.proofs.lemmas.List.Sorted.{list_any-IsPermutation, IsPermutation-refl, IsPermutation-to_front, IsPermutation-append_comm, IsPermutation-append_right}
use Rattle.std.proofs.lemmas.List.Sums.{sum_by-cons}
use Rattle.std.proofs.lemmas.Map.Keys.{sorted_head, sorted_tail}
use Rattle.std.specs.BTreeMap.{is_at, insert_entry}
use Rattle.std.specs.BTreeMap.Range.{range_contains, entries_between}
use Rattle.std.specs.List.{AllByRecursion, list_any, count_by, filter}
use Rattle.std.specs.List.Sorted.{IsPermutation, IsStrictlySortedBy}
use Rattle.std.specs.Map.{keys_of, lookup, set_value}
use Rattle.std.specs.Ordering.{nat_cmp, is_eq, is_le, match_ordering}
use Rattle.std.specs.declared.ops.Bound.TheVariants.{Included, Excluded}
use Rattle.std.specs.declared.cmp.Ordering.{Ordering}
use Rattle.std.specs.declared.cmp.Ordering.TheVariants.{Less, Equal, Greater}
use Rattle.munge_types.proofs.ExpiryLemmas.{expiries_below-zero, expiries_below-next}
use Rattle.munge_types.proofs.PurgeLemmas.{purged-cut}
use Rattle.munge_types.specs.Live.{is_live}
use Rattle.munge_types.specs.Purge.{expiries, expiries_below, purged}
use Rattle.munge_types.specs.declared.pair.Pair.{Pair}
use Rattle.replay_table.specs.Groups.{pairs_at, pairs_of, IsGrouped}

abbrev pub pair_of : ℕ → List ℕ → Pair
pair_of expiry mac = record { expiry = expiry; mac = mac }

pub IsGrouped-tail : (group : ℕ × List (List ℕ)) (groups : List (ℕ × List (List ℕ))) → IsGrouped (group ∷ groups) → IsGrouped groups
IsGrouped-tail group groups is = record { rising = sorted_tail nat_cmp group.0 (keys_of groups) is.rising; filled = is.filled.1 }

-- ---- the key that a query finds

found_is : (a b : ℕ) → is_at (nat_cmp a) b ≡ true → a ≡ b
found_is a b h = by_tests (nat_lt a b) (nat_eq a b) refl h
  where
    by_tests : (less same : Bool) → same ≡ nat_eq a b → is_eq (cond less Less (cond same Equal Greater)) ≡ true → a ≡ b
    by_tests true same is h = cc
    by_tests false true is h = eqb-true a b (sym is)
    by_tests false false is h = cc

less_than : (a b : ℕ) → nat_cmp a b ≡ Less → a < b
less_than a b h = by_tests (nat_lt a b) (nat_eq a b) refl h
  where
    by_tests : (less same : Bool) → less ≡ nat_lt a b → cond less Less (cond same Equal Greater) ≡ Less → a < b
    by_tests true same is h = ltb-true a b (sym is)
    by_tests false true is h = cc
    by_tests false false is h = cc

-- ---- one more MAC

-- the last of the first of two lists goes to the end
last_of_first : (front : List Pair) (pair : Pair) (back : List Pair) → IsPermutation ((front ++ back) ++ pair ∷ []) ((front ++ pair ∷ []) ++ back)
last_of_first front pair back =
    rw (append_assoc front back (pair ∷ []), append_assoc front (pair ∷ []) back) (IsPermutation-append_right front _ _ (IsPermutation-append_comm back (pair ∷ [])))

-- in the first group
put_here : (mac : List ℕ) (group : ℕ × List (List ℕ)) (groups : List (ℕ × List (List ℕ)))
    → IsPermutation (pairs_of (group ∷ groups) ++ pair_of group.0 mac ∷ []) (pairs_of ((group.0, group.1 ++ mac ∷ []) ∷ groups))
put_here mac group groups =
    subst (λ front. IsPermutation (pairs_of (group ∷ groups) ++ pair_of group.0 mac ∷ []) (front ++ pairs_of groups))
    (sym (map-append (pair_of group.0) group.1 (mac ∷ []))) (last_of_first (pairs_at group.0 group.1) (pair_of group.0 mac) (pairs_of groups))

-- in a later group
put_past : (pair : Pair) (group : ℕ × List (List ℕ)) (groups others : List (ℕ × List (List ℕ)))
    → IsPermutation (pairs_of groups ++ pair ∷ []) (pairs_of others)
    → IsPermutation (pairs_of (group ∷ groups) ++ pair ∷ []) (pairs_of (group ∷ others))
put_past pair group groups others moved =
    subst (λ all. IsPermutation all (pairs_of (group ∷ others))) (sym (append_assoc (pairs_at group.0 group.1) (pairs_of groups) (pair ∷ [])))
    (IsPermutation-append_right (pairs_at group.0 group.1) _ _ moved)

-- a MAC is put to those of its expiry
pub pairs_of-set_value : (expiry : ℕ) (mac : List ℕ) (groups : List (ℕ × List (List ℕ))) (macs : List (List ℕ))
    → lookup (is_at (nat_cmp expiry)) groups ≡ Some macs
    → IsPermutation (pairs_of groups ++ pair_of expiry mac ∷ []) (pairs_of (set_value (is_at (nat_cmp expiry)) groups (macs ++ mac ∷ [])))
pairs_of-set_value expiry mac [] macs found = cc
pairs_of-set_value expiry mac (group ∷ groups) macs found =
    by_test (is_at (nat_cmp expiry) group.0) refl found (pairs_of-set_value expiry mac groups macs)
  where
    by_test : (here : Bool) → here ≡ is_at (nat_cmp expiry) group.0
        → cond here (Some group.1) (lookup (is_at (nat_cmp expiry)) groups) ≡ Some macs
        → (lookup (is_at (nat_cmp expiry)) groups ≡ Some macs
        → IsPermutation (pairs_of groups ++ pair_of expiry mac ∷ []) (pairs_of (set_value (is_at (nat_cmp expiry)) groups (macs ++ mac ∷ []))))
        → IsPermutation (pairs_of (group ∷ groups) ++ pair_of expiry mac ∷ [])
        (pairs_of (cond here ((group.0, macs ++ mac ∷ []) ∷ groups) (group ∷ set_value (is_at (nat_cmp expiry)) groups (macs ++ mac ∷ []))))
    by_test true is same later =
        let at : group.0 ≡ expiry = sym (found_is expiry group.0 (sym is)) in
        let these : group.1 ≡ macs = cc in
        subst (λ e. IsPermutation (pairs_of (group ∷ groups) ++ pair_of e mac ∷ []) (pairs_of ((group.0, macs ++ mac ∷ []) ∷ groups))) at
        (subst (λ ms. IsPermutation (pairs_of (group ∷ groups) ++ pair_of group.0 mac ∷ []) (pairs_of ((group.0, ms ++ mac ∷ []) ∷ groups))) these (put_here mac group groups))
    by_test false is same later =
        put_past (pair_of expiry mac) group groups (set_value (is_at (nat_cmp expiry)) groups (macs ++ mac ∷ [])) (later same)

-- a MAC is the first of its expiry
pub pairs_of-insert_entry : (expiry : ℕ) (mac : List ℕ) (groups : List (ℕ × List (List ℕ)))
    → lookup (is_at (nat_cmp expiry)) groups ≡ None
    → IsPermutation (pairs_of groups ++ pair_of expiry mac ∷ []) (pairs_of (insert_entry nat_cmp groups expiry (mac ∷ [])))
pairs_of-insert_entry expiry mac [] absent = IsPermutation-refl _
pairs_of-insert_entry expiry mac (group ∷ groups) absent =
    by_order (nat_cmp expiry group.0) absent (pairs_of-insert_entry expiry mac groups)
  where
    by_order : (order : Ordering) → cond (is_eq order) (Some group.1) (lookup (is_at (nat_cmp expiry)) groups) ≡ None
        → (lookup (is_at (nat_cmp expiry)) groups ≡ None
        → IsPermutation (pairs_of groups ++ pair_of expiry mac ∷ []) (pairs_of (insert_entry nat_cmp groups expiry (mac ∷ []))))
        → IsPermutation (pairs_of (group ∷ groups) ++ pair_of expiry mac ∷ [])
        (pairs_of (match_ordering order ((expiry, mac ∷ []) ∷ group ∷ groups) ((group.0, mac ∷ []) ∷ groups) (group ∷ insert_entry nat_cmp groups expiry (mac ∷ []))))
    by_order Less none later = IsPermutation-to_front (pairs_of (group ∷ groups)) (pair_of expiry mac)
    by_order Equal none later = cc
    by_order Greater none later =
        put_past (pair_of expiry mac) group groups (insert_entry nat_cmp groups expiry (mac ∷ [])) (later none)

-- ---- no group is empty

pub filled-set_value : (test : ℕ → Bool) (groups : List (ℕ × List (List ℕ))) (macs : List (List ℕ)) → 0 < length macs
    → AllByRecursion (λ group. 0 < length group.1) groups
    → AllByRecursion (λ group. 0 < length group.1) (set_value test groups macs)
filled-set_value test [] macs some filled = tt
filled-set_value test (group ∷ groups) macs some filled =
    elim (test group.0) as (λ b. AllByRecursion (λ (g : ℕ × List (List ℕ)). 0 < length g.1) (cond b ((group.0, macs) ∷ groups) (group ∷ set_value test groups macs))) [
      | true ↦ (some, filled.1)
      | false ↦ (filled.0, filled-set_value test groups macs some filled.1)
    ]

pub filled-insert_entry : (expiry : ℕ) (groups : List (ℕ × List (List ℕ))) (macs : List (List ℕ)) → 0 < length macs
    → AllByRecursion (λ group. 0 < length group.1) groups
    → AllByRecursion (λ group. 0 < length group.1) (insert_entry nat_cmp groups expiry macs)
filled-insert_entry expiry [] macs some filled = (some, tt)
filled-insert_entry expiry (group ∷ groups) macs some filled =
    elim (nat_cmp expiry group.0) as (λ o. AllByRecursion (λ (g : ℕ × List (List ℕ)). 0 < length g.1)
    (match_ordering o ((expiry, macs) ∷ group ∷ groups) ((group.0, macs) ∷ groups) (group ∷ insert_entry nat_cmp groups expiry macs))) [
      | Less ↦ (some, filled)
      | Equal ↦ (some, filled.1)
      | Greater ↦ (filled.0, filled-insert_entry expiry groups macs some filled.1)
    ]

-- ---- the expiries

-- those of one group, of which it is not among the others
expiries-pairs_at : (expiry : ℕ) (mac : List ℕ) (macs : List (List ℕ)) (others : List Pair) → list_any (nat_eq expiry) (expiries others) ≡ false
    → expiries (pairs_at expiry (mac ∷ macs) ++ others) ≡ expiry ∷ expiries others
expiries-pairs_at expiry mac [] others apart = ap (λ b. cond b (expiries others) (expiry ∷ expiries others)) apart
expiries-pairs_at expiry mac (next ∷ macs) others apart =
    let rest = expiries-pairs_at expiry next macs others apart in
    let here : list_any (nat_eq expiry) (expiries (pairs_at expiry (next ∷ macs) ++ others)) ≡ true =
    ap (list_any (nat_eq expiry)) rest ∙ or_left (nat_eq expiry expiry) _ (eq-eqb expiry expiry refl) in
    ap (λ b. cond b (expiries (pairs_at expiry (next ∷ macs) ++ others)) (expiry ∷ expiries (pairs_at expiry (next ∷ macs) ++ others))) here ∙ rest

-- an expiry below all of these is not among them
none_of_later : (expiry : ℕ) (later : List ℕ) → AllByRecursion (λ other. nat_cmp expiry other ≡ Less) later → list_any (nat_eq expiry) later ≡ false
none_of_later expiry [] above = refl
none_of_later expiry (other ∷ later) above =
    or_from _ _ (ne_eqb expiry other (λ same. omega (arith, less_than expiry other above.0))) (none_of_later expiry later above.1)

-- each group has one
pub expiries-pairs_of : (groups : List (ℕ × List (List ℕ))) → IsGrouped groups → expiries (pairs_of groups) ≡ keys_of groups
expiries-pairs_of [] is = refl
expiries-pairs_of ((expiry, []) ∷ groups) is = absurd (omega (arith, is.filled.0))
expiries-pairs_of ((expiry, mac ∷ macs) ∷ groups) is =
    let later = expiries-pairs_of groups (IsGrouped-tail (expiry, mac ∷ macs) groups is) in
    expiries-pairs_at expiry mac macs (pairs_of groups)
    (ap (list_any (nat_eq expiry)) later ∙ none_of_later expiry (keys_of groups) (sorted_head nat_cmp expiry (keys_of groups) is.rising))
    ∙ ap (λ es. expiry ∷ es) later

-- so many of them are below a bound
pub expiries_below-pairs_of : (bound : ℕ) (groups : List (ℕ × List (List ℕ))) → IsGrouped groups
    → expiries_below bound (pairs_of groups) ≡ count_by (λ e. nat_lt e bound) (keys_of groups)
expiries_below-pairs_of bound groups is = ap (count_by (λ e. nat_lt e bound)) (expiries-pairs_of groups is)

-- ---- between two bounds

le_test : (a b : ℕ) → is_le (nat_cmp a b) ≡ nat_le a b
le_test a b = by_tests (nat_lt a b) (nat_eq a b) refl refl
  where
    by_tests : (less same : Bool) → less ≡ nat_lt a b → same ≡ nat_eq a b → is_le (cond less Less (cond same Equal Greater)) ≡ nat_le a b
    by_tests true same is at = sym (le-leb a b (omega (arith, ltb-true a b (sym is))))
    by_tests false true is at = sym (le-leb a b (omega (arith, eqb-true a b (sym at))))
    by_tests false false is at = sym (lt-leb a b (omega (arith, ltb-false a b (sym is), eqb-false a b (sym at))))

one_between : (from to k : ℕ) → from ≤ to
    → cond (nat_lt k from) 1 0 + cond (nat_le from k && not (nat_le to k)) 1 0 ≡ cond (nat_lt k to) 1 0
one_between from to k within = grind (arith, nat_tests)

length-cond : {X : Type 0} (test : Bool) (x : X) (xs : List X) → length (cond test (x ∷ xs) xs) ≡ cond test 1 0 + length xs
length-cond true x xs = omega arith
length-cond false x xs = omega arith

pub count-between : (from to : ℕ) (groups : List (ℕ × List (List ℕ))) → from ≤ to
    → count_by (λ e. nat_lt e from) (keys_of groups) + length (entries_between nat_cmp (Included from) (Excluded to) groups)
    ≡ count_by (λ e. nat_lt e to) (keys_of groups)
count-between from to [] within = refl
count-between from to (group ∷ groups) within =
    let here : cond {A = ℕ} (range_contains nat_cmp (Included from) (Excluded to) group.0) 1 0
    ≡ cond (nat_le from group.0 && not (nat_le to group.0)) 1 0 =
    ap (λ b. cond (b && not (is_le (nat_cmp to group.0))) 1 0) (le_test from group.0)
    ∙ ap (λ b. cond (nat_le from group.0 && not b) 1 0) (le_test to group.0) in
    omega (
      arith,
      here,
      one_between from to group.0 within,
      count-between from to groups within,
      sum_by-cons (λ e. cond (nat_lt e from) 1 0) group.0 (keys_of groups),
      sum_by-cons (λ e. cond (nat_lt e to) 1 0) group.0 (keys_of groups),
      length-cond (range_contains nat_cmp (Included from) (Excluded to) group.0) group (entries_between nat_cmp (Included from) (Excluded to) groups),
    )

-- ---- from a bound on

-- where the first is no less, none is
all_from : (bound expiry : ℕ) (later : List ℕ) → bound ≤ expiry → AllByRecursion (λ other. nat_cmp expiry other ≡ Less) later
    → AllByRecursion (λ other. bound ≤ other) later
all_from bound expiry [] from above = tt
all_from bound expiry (other ∷ later) from above = (omega (arith, less_than expiry other above.0), all_from bound expiry later from above.1)

count-all_from : (bound : ℕ) (es : List ℕ) → AllByRecursion (λ e. bound ≤ e) es → count_by (λ e. nat_lt e bound) es ≡ 0
count-all_from bound [] from = refl
count-all_from bound (e ∷ es) from =
    let none : cond {A = ℕ} (nat_lt e bound) 1 0 ≡ 0 = ap (λ t. cond t 1 0) (le-ltb e bound from.0) in
    omega (arith, none, sum_by-cons (λ e. cond (nat_lt e bound) 1 0) e es, count-all_from bound es from.1)

filter-pairs_at : (bound expiry : ℕ) (macs : List (List ℕ)) (live : Bool) → nat_le bound expiry ≡ live
    → filter (is_live bound) (pairs_at expiry macs) ≡ cond live (pairs_at expiry macs) []
filter-pairs_at bound expiry [] true is = refl
filter-pairs_at bound expiry [] false is = refl
filter-pairs_at bound expiry (mac ∷ macs) true is =
    ap (λ t. cond t (pair_of expiry mac ∷ filter (is_live bound) (pairs_at expiry macs)) (filter (is_live bound) (pairs_at expiry macs))) is
    ∙ ap (λ rest. pair_of expiry mac ∷ rest) (filter-pairs_at bound expiry macs true is)
filter-pairs_at bound expiry (mac ∷ macs) false is =
    ap (λ t. cond t (pair_of expiry mac ∷ filter (is_live bound) (pairs_at expiry macs)) (filter (is_live bound) (pairs_at expiry macs))) is
    ∙ filter-pairs_at bound expiry macs false is

filter-pairs_of : (bound : ℕ) (group : ℕ × List (List ℕ)) (groups : List (ℕ × List (List ℕ))) (live : Bool) → nat_le bound group.0 ≡ live
    → filter (is_live bound) (pairs_of (group ∷ groups)) ≡ cond live (pairs_at group.0 group.1) [] ++ filter (is_live bound) (pairs_of groups)
filter-pairs_of bound group groups live is =
    filter-append (is_live bound) (pairs_at group.0 group.1) (pairs_of groups)
    ∙ ap (λ front. front ++ filter (is_live bound) (pairs_of groups)) (filter-pairs_at bound group.0 group.1 live is)

filter-all_from : (bound : ℕ) (groups : List (ℕ × List (List ℕ))) → AllByRecursion (λ e. bound ≤ e) (keys_of groups)
    → filter (is_live bound) (pairs_of groups) ≡ pairs_of groups
filter-all_from bound [] from = refl
filter-all_from bound (group ∷ groups) from =
    filter-pairs_of bound group groups true (le-leb bound group.0 from.0)
    ∙ ap (λ rest. pairs_at group.0 group.1 ++ rest) (filter-all_from bound groups from.1)

-- what is left from a bound on is behind so many groups as are below it
filter-drop : (bound : ℕ) (groups : List (ℕ × List (List ℕ))) → IsStrictlySortedBy nat_cmp (keys_of groups)
    → filter (is_live bound) (pairs_of groups) ≡ pairs_of (drop (count_by (λ e. nat_lt e bound) (keys_of groups)) groups)
filter-drop bound [] rising = refl
filter-drop bound (group ∷ groups) rising =
    elim (cases_lt group.0 bound) [
      | inl under ↦
          let one : count_by (λ e. nat_lt e bound) (group.0 ∷ keys_of groups) ≡ suc (count_by (λ e. nat_lt e bound) (keys_of groups)) =
          omega (arith, sum_by-cons (λ e. cond (nat_lt e bound) 1 0) group.0 (keys_of groups), counts (lt-ltb group.0 bound under)) in
          filter-pairs_of bound group groups false (lt-leb bound group.0 under)
          ∙ filter-drop bound groups (sorted_tail nat_cmp group.0 (keys_of groups) rising)
          ∙ ap (λ n. pairs_of (drop n (group ∷ groups))) (sym one)
      | inr over ↦
          let from = all_from bound group.0 (keys_of groups) over (sorted_head nat_cmp group.0 (keys_of groups) rising) in
          filter-all_from bound (group ∷ groups) (over, from)
          ∙ ap (λ n. pairs_of (drop n (group ∷ groups))) (sym (count-all_from bound (group.0 ∷ keys_of groups) (over, from)))
    ]
  where
    counts : nat_lt group.0 bound ≡ true → cond {A = ℕ} (nat_lt group.0 bound) 1 0 ≡ 1
    counts is = ap (λ t. cond t 1 0) is

-- ---- a purge

-- some bound up to the floor has so many below it
reach : (floor count : ℕ) (pairs : List Pair) → count ≤ expiries_below floor pairs
    → (cut : ℕ) × (cut ≤ floor) × (expiries_below cut pairs ≡ count)
reach zero count pairs few = (zero, omega arith, omega (arith, expiries_below-zero pairs))
reach (suc floor) count pairs few =
    elim (cases_lt (expiries_below floor pairs) count) [
      | inl fewer ↦ (suc floor, omega arith, omega (arith, few, fewer, at_most_one_more))
      | inr enough ↦ let at = reach floor count pairs enough in (at.0, omega (arith, at.1), at.2)
    ]
  where
    at_most_one : (t : Bool) → cond t 1 0 ≤ 1
    at_most_one true = omega arith
    at_most_one false = omega arith

    at_most_one_more : expiries_below (suc floor) pairs ≤ expiries_below floor pairs + 1
    at_most_one_more =
        let same : suc floor ≡ floor + 1 = omega arith in
        rw same (omega (arith, expiries_below-next floor pairs, at_most_one (list_any (λ pair. nat_eq floor pair.expiry) pairs)))

-- it drops so many groups as its slice has of those below the floor
pub purged-pairs_of : (floor slice : ℕ) (groups : List (ℕ × List (List ℕ))) → IsGrouped groups
    → purged floor slice (pairs_of groups) ≡ pairs_of (drop (min (expiries_below floor (pairs_of groups)) slice) groups)
purged-pairs_of floor slice groups is =
    let count = min (expiries_below floor (pairs_of groups)) slice in
    let at = reach floor count (pairs_of groups) (omega arith) in
    purged-cut floor slice at.0 count (pairs_of groups) (record { within = at.1; counted = at.2; most = omega arith; all = λ less. omega arith })
    ∙ filter-drop at.0 groups is.rising
    ∙ ap (λ n. pairs_of (drop n groups)) (sym (expiries_below-pairs_of at.0 groups is) ∙ at.2)

count-drop : (bound n : ℕ) (groups : List (ℕ × List (List ℕ))) → IsStrictlySortedBy nat_cmp (keys_of groups)
    → n ≤ count_by (λ e. nat_lt e bound) (keys_of groups)
    → count_by (λ e. nat_lt e bound) (keys_of (drop n groups)) + n ≡ count_by (λ e. nat_lt e bound) (keys_of groups)
count-drop bound zero groups rising few = omega arith
count-drop bound (suc n) [] rising few = absurd (omega arith)
count-drop bound (suc n) (group ∷ groups) rising few =
    elim (cases_lt group.0 bound) [
      | inl under ↦
          let one : cond {A = ℕ} (nat_lt group.0 bound) 1 0 ≡ 1 = ap (λ t. cond t 1 0) (lt-ltb group.0 bound under) in
          let first = sum_by-cons (λ e. cond (nat_lt e bound) 1 0) group.0 (keys_of groups) in
          omega (arith, one, first, count-drop bound n groups (sorted_tail nat_cmp group.0 (keys_of groups) rising) (omega (arith, one, first, few)))
      | inr over ↦
          let from = all_from bound group.0 (keys_of groups) over (sorted_head nat_cmp group.0 (keys_of groups) rising) in
          absurd (omega (arith, few, count-all_from bound (group.0 ∷ keys_of groups) (over, from)))
    ]

rising-drop : (n : ℕ) (groups : List (ℕ × List (List ℕ))) → IsGrouped groups → IsGrouped (drop n groups)
rising-drop zero groups is = is
rising-drop (suc n) [] is = is
rising-drop (suc n) (group ∷ groups) is = rising-drop n groups (IsGrouped-tail group groups is)

-- so many fewer are below the floor then
pub expiries_below-drop : (floor n : ℕ) (groups : List (ℕ × List (List ℕ))) → IsGrouped groups → n ≤ expiries_below floor (pairs_of groups)
    → expiries_below floor (pairs_of (drop n groups)) + n ≡ expiries_below floor (pairs_of groups)
expiries_below-drop floor n groups is few =
    let all = expiries_below-pairs_of floor groups is in
    omega (
      arith,
      all,
      expiries_below-pairs_of floor (drop n groups) (rising-drop n groups is),
      count-drop floor n groups is.rising (omega (arith, all, few)),
    )

-- and no more pairs are left
pub length-pairs_of-drop : (n : ℕ) (groups : List (ℕ × List (List ℕ))) → length (pairs_of (drop n groups)) ≤ length (pairs_of groups)
length-pairs_of-drop zero groups = omega arith
length-pairs_of-drop (suc n) [] = omega arith
length-pairs_of-drop (suc n) (group ∷ groups) =
    omega (arith, length-append (pairs_at group.0 group.1) (pairs_of groups), length-pairs_of-drop n groups)

-- ---- one more pair

-- lists with the same expiries below a bound have as many of them
expiries_below-same : (bound : ℕ) (pairs others : List Pair)
    → ((e : ℕ) → e < bound → list_any (λ pair. nat_eq e pair.expiry) pairs ≡ list_any (λ pair. nat_eq e pair.expiry) others)
    → expiries_below bound pairs ≡ expiries_below bound others
expiries_below-same zero pairs others same = expiries_below-zero pairs ∙ sym (expiries_below-zero others)
expiries_below-same (suc bound) pairs others same =
    let next : suc bound ≡ bound + 1 = omega arith in
    let here : cond {A = ℕ} (list_any (λ pair. nat_eq bound pair.expiry) pairs) 1 0 ≡ cond (list_any (λ pair. nat_eq bound pair.expiry) others) 1 0 =
    ap (λ t. cond t 1 0) (same bound (omega arith)) in
    rw next (omega (
      arith,
      here,
      expiries_below-next bound pairs,
      expiries_below-next bound others,
      expiries_below-same bound pairs others (λ e under. same e (omega (arith, under))),
    ))

-- a pair that does not expire below the bound counts for nothing
pub expiries_below-more : (bound : ℕ) (pairs more : List Pair) (pair : Pair) → bound ≤ pair.expiry → IsPermutation (pairs ++ pair ∷ []) more
    → expiries_below bound pairs ≡ expiries_below bound more
expiries_below-more bound pairs more pair above moved =
    expiries_below-same bound pairs more (λ e under.
    sym (or-false (list_any (λ other. nat_eq e other.expiry) pairs))
    ∙ ap (λ t. list_any (λ other. nat_eq e other.expiry) pairs || (t || false)) (sym (ne_eqb e pair.expiry (λ same. omega (arith, under, same, above))))
    ∙ sym (list_any-append (λ other. nat_eq e other.expiry) pairs (pair ∷ []))
    ∙ list_any-IsPermutation (λ other. nat_eq e other.expiry) (pairs ++ pair ∷ []) more moved)
