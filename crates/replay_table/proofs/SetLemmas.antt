-- A hashed set and the list of the pairs that it holds.
use Rattle.std.proofs.Common.{◌≡◌, Bool, true, false, ◌||◌, cond, List, [], ◌∷◌, ◌++◌, length, append_assoc, ap, sym, ◌∙◌, refl, subst, inl, inr, ◌⊎◌}
use Rattle.std.proofs.lemmas.Bool.{cases_Bool}
use Rattle.std.proofs.lemmas.List.Folds.{list_any-append}
use Rattle.std.proofs.lemmas.List.Sorted.{IsPermutation-middle, list_any-IsPermutation}
use Rattle.std.proofs.lemmas.Map.Keys.{IsDistinct-head, IsDistinct-tail, IsDistinct-IsPermutation}
use Rattle.std.proofs.lemmas.Map.Made.{length-from_same_keys}
use Rattle.std.specs.List.{AllByRecursion, IsDistinct, list_any}
use Rattle.std.specs.List.Sorted.{IsPermutation}
use Rattle.munge_types.proofs.Distinct.{IsDistinct-push}
use Rattle.munge_types.proofs.PairLemmas.{pair_eq-equiv, pair_eq-Decides}
use Rattle.munge_types.specs.Pair.{pair_eq}
use Rattle.munge_types.specs.declared.pair.Pair.{Pair}
use Rattle.replay_table.specs.IndexedPairs.{IsSetOf}

-- the order of the list does not matter
pub IsSetOf-IsPermutation : (pairs others set : List Pair) → IsPermutation pairs others → IsSetOf pairs set → IsSetOf others set
IsSetOf-IsPermutation pairs others set moved is = record {
  once = IsDistinct-IsPermutation pair_eq pair_eq-equiv.symm pairs others moved is.once;
  same = λ pair. is.same pair ∙ list_any-IsPermutation (pair_eq pair) pairs others moved;
}

-- a set has as many pairs as the list
pub length-IsSetOf : (pairs set : List Pair) → IsDistinct pair_eq set → IsSetOf pairs set → length set ≡ length pairs
length-IsSetOf pairs set unique is = length-from_same_keys pair_eq-equiv set pairs unique is.once is.same

-- ---- one pair less

-- a pair that no element equals is not among them
none_among : (pair : Pair) (pairs : List Pair) → AllByRecursion (λ other. pair_eq pair other ≡ false) pairs → list_any (pair_eq pair) pairs ≡ false
none_among pair [] none = refl
none_among pair (other ∷ pairs) none = ap (λ b. b || list_any (pair_eq pair) pairs) none.0 ∙ none_among pair pairs none.1

IsSetOf-tail : (pair : Pair) (pairs set less : List Pair)
    → ((sought : Pair) → list_any (pair_eq sought) less ≡ cond (pair_eq pair sought) false (list_any (pair_eq sought) set))
    → IsSetOf (pair ∷ pairs) set → IsSetOf pairs less
IsSetOf-tail pair pairs set less taken is = record {
  once = IsDistinct-tail pair_eq pair pairs is.once;
  same = λ sought. taken sought ∙ ap (cond (pair_eq pair sought) false) (is.same sought) ∙ either sought (cases_Bool (pair_eq pair sought));
}
  where
    gone : list_any (pair_eq pair) pairs ≡ false
    gone = none_among pair pairs (IsDistinct-head pair_eq pair pairs is.once)

    either : (sought : Pair) → (pair_eq pair sought ≡ true) ⊎ (pair_eq pair sought ≡ false)
        → cond (pair_eq pair sought) false (pair_eq sought pair || list_any (pair_eq sought) pairs) ≡ list_any (pair_eq sought) pairs
    either sought (inl here) =
        ap (λ b. cond b false (pair_eq sought pair || list_any (pair_eq sought) pairs)) here
        ∙ sym gone ∙ ap (λ (p : Pair). list_any (pair_eq p) pairs) ((pair_eq-Decides pair sought).0 here)
    either sought (inr apart) =
        ap (λ b. cond b false (pair_eq sought pair || list_any (pair_eq sought) pairs)) apart
        ∙ ap (λ b. b || list_any (pair_eq sought) pairs) (pair_eq-equiv.symm sought pair ∙ apart)

-- the pair between these is taken out
pub IsSetOf-removed : (front : List Pair) (pair : Pair) (back set less : List Pair)
    → ((sought : Pair) → list_any (pair_eq sought) less ≡ cond (pair_eq pair sought) false (list_any (pair_eq sought) set))
    → IsSetOf ((front ++ pair ∷ []) ++ back) set → IsSetOf (front ++ back) less
IsSetOf-removed front pair back set less taken is =
    IsSetOf-tail pair (front ++ back) set less taken
    (IsSetOf-IsPermutation _ (pair ∷ (front ++ back)) set (subst (λ all. IsPermutation all (pair ∷ (front ++ back))) same (IsPermutation-middle front pair back)) is)
  where
    same : front ++ pair ∷ back ≡ (front ++ pair ∷ []) ++ back
    same = sym (append_assoc front (pair ∷ []) back)

-- ---- one pair more

-- a new pair is put in
pub IsSetOf-inserted : (pairs more : List Pair) (pair : Pair) (set larger : List Pair)
    → list_any (pair_eq pair) pairs ≡ false → IsPermutation (pairs ++ pair ∷ []) more
    → ((sought : Pair) → list_any (pair_eq sought) larger ≡ cond (pair_eq pair sought) true (list_any (pair_eq sought) set))
    → IsSetOf pairs set → IsSetOf more larger
IsSetOf-inserted pairs more pair set larger new moved put is =
    IsSetOf-IsPermutation (pairs ++ pair ∷ []) more larger moved
    (record {
      once = IsDistinct-push pair_eq pair_eq-equiv.symm pairs pair new is.once;
      same = λ sought. put sought ∙ ap (cond (pair_eq pair sought) true) (is.same sought) ∙ either (pair_eq pair sought) (list_any (pair_eq sought) pairs)
          ∙ sym (list_any-append (pair_eq sought) pairs (pair ∷ []) ∙ ap (λ b. list_any (pair_eq sought) pairs || (b || false)) (pair_eq-equiv.symm sought pair));
    })
  where
    either : (a b : Bool) → cond a true b ≡ (b || (a || false))
    either true true = refl
    either true false = refl
    either false true = refl
    either false false = refl
