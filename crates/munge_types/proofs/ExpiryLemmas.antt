-- How many distinct expiries of a list of pairs are below a bound.
use Rattle.std.proofs.Common.{◌≡◌, ℕ, zero, suc, ◌+◌, ◌-◌, ◌<◌, ◌≤◌, Bool, true, false, ◌||◌, cond, nat_eq, nat_lt, List, [], ◌∷◌, sym, ◌∙◌, ap, refl, arith, add-zero, inl, inr}
use Rattle.std.proofs.lemmas.Bool.{cases_Bool, eqb-true, le-ltb, false≢true}
use Rattle.std.proofs.lemmas.List.Sums.{sum_by-cons}
use Rattle.std.proofs.lemmas.Bool.Decides.{nat_tests}
use Rattle.std.specs.List.{list_any, count_by}
use Rattle.munge_types.specs.Purge.{expiries, expiries_below}
use Rattle.munge_types.specs.declared.pair.Pair.{Pair}

-- ---- one more moment

count-cons : (p : ℕ → Bool) (e : ℕ) (es : List ℕ) → count_by p (e ∷ es) ≡ cond (p e) 1 0 + count_by p es
count-cons p e es = sum_by-cons (λ x. cond (p x) 1 0) e es

below_next : (b e : ℕ) → cond (nat_lt e (b + 1)) 1 0 ≡ cond (nat_lt e b) 1 0 + cond (nat_eq b e) 1 0
below_next b e = grind (arith, nat_tests)

count_below-next : (b : ℕ) (es : List ℕ)
    → count_by (λ e. nat_lt e (b + 1)) es ≡ count_by (λ e. nat_lt e b) es + count_by (nat_eq b) es
count_below-next b [] = refl
count_below-next b (e ∷ es) =
    omega (arith, below_next b e, count_below-next b es, count-cons (λ e. nat_lt e (b + 1)) e es, count-cons (λ e. nat_lt e b) e es, count-cons (nat_eq b) e es)

-- in a list of distinct numbers with one more number
once_more : (b e : ℕ) (es : List ℕ) (again : Bool) → again ≡ list_any (nat_eq e) es
    → count_by (nat_eq b) es ≡ cond (list_any (nat_eq b) es) 1 0
    → count_by (nat_eq b) (cond again es (e ∷ es)) ≡ cond (list_any (nat_eq b) (cond again es (e ∷ es))) 1 0
once_more b e es true is once = once
once_more b e es false is once =
    count-cons (nat_eq b) e es ∙ ap (λ n. cond (nat_eq b e) 1 0 + n) once ∙ either (nat_eq b e) (list_any (nat_eq b) es)
    (λ same. ap (λ n. list_any (nat_eq n) es) (eqb-true b e same) ∙ sym is)
  where
    either : (same among : Bool) → (same ≡ true → among ≡ false) → cond same 1 0 + cond among 1 0 ≡ cond (same || among) 1 0
    either true true h = absurd (false≢true (sym (h refl)))
    either true false h = refl
    either false true h = refl
    either false false h = refl

-- an expiry is counted once
once : (b : ℕ) (pairs : List Pair) → count_by (nat_eq b) (expiries pairs) ≡ cond (list_any (nat_eq b) (expiries pairs)) 1 0
once b [] = refl
once b (pair ∷ pairs) = once_more b pair.expiry (expiries pairs) (list_any (nat_eq pair.expiry) (expiries pairs)) refl (once b pairs)

among_more : (b e : ℕ) (es : List ℕ) (again : Bool) → again ≡ list_any (nat_eq e) es
    → list_any (nat_eq b) (cond again es (e ∷ es)) ≡ (nat_eq b e || list_any (nat_eq b) es)
among_more b e es true is =
    elim (cases_Bool (nat_eq b e)) [
      | inl same ↦ rw same (ap (λ n. list_any (nat_eq n) es) (eqb-true b e same) ∙ sym is)
      | inr other ↦ rw other refl
    ]
among_more b e es false is = refl

-- it is among the expiries exactly where some pair has it
pub among_expiries : (b : ℕ) (pairs : List Pair)
    → list_any (nat_eq b) (expiries pairs) ≡ list_any (λ pair. nat_eq b pair.expiry) pairs
among_expiries b [] = refl
among_expiries b (pair ∷ pairs) =
    among_more b pair.expiry (expiries pairs) (list_any (nat_eq pair.expiry) (expiries pairs)) refl
    ∙ ap (λ rest. nat_eq b pair.expiry || rest) (among_expiries b pairs)

-- one more expiry is below the next bound, where some pair has the bound
pub expiries_below-next : (b : ℕ) (pairs : List Pair)
    → expiries_below (b + 1) pairs ≡ expiries_below b pairs + cond (list_any (λ pair. nat_eq b pair.expiry) pairs) 1 0
expiries_below-next b pairs =
    count_below-next b (expiries pairs)
    ∙ ap (λ n. expiries_below b pairs + n) (once b pairs ∙ ap (λ t. cond t 1 0) (among_expiries b pairs))

-- none is below 0
pub expiries_below-zero : (pairs : List Pair) → expiries_below 0 pairs ≡ 0
expiries_below-zero pairs = none (expiries pairs)
  where
    none : (es : List ℕ) → count_by (λ e. nat_lt e 0) es ≡ 0
    none [] = refl
    none (e ∷ es) = count-cons (λ e. nat_lt e 0) e es ∙ ap (λ t. cond t 1 0 + count_by (λ e. nat_lt e 0) es) (le-ltb e 0 (omega arith)) ∙ omega (arith, none es)

-- ---- between two bounds

at_most_one : (t : Bool) → cond t 1 0 ≤ 1
at_most_one true = omega arith
at_most_one false = omega arith

-- no more distinct expiries than moments are below a bound
pub expiries_below-le : (b : ℕ) (pairs : List Pair) → expiries_below b pairs ≤ b
expiries_below-le zero pairs = rw (expiries_below-zero pairs) (omega arith)
expiries_below-le (suc b) pairs =
    let same : suc b ≡ b + 1 = omega arith in
    rw same (omega (arith, expiries_below-next b pairs, at_most_one (list_any (λ pair. nat_eq b pair.expiry) pairs), expiries_below-le b pairs))

rises : (a more : ℕ) (pairs : List Pair) → expiries_below a pairs ≤ expiries_below (a + more) pairs
rises a zero pairs = rw add-zero (omega arith)
rises a (suc more) pairs =
    let next = expiries_below-next (a + more) pairs in
    let same : a + suc more ≡ a + more + 1 = omega arith in
    rw same (omega (arith, next, rises a more pairs))

pub expiries_below-mono : (a b : ℕ) (pairs : List Pair) → a ≤ b → expiries_below a pairs ≤ expiries_below b pairs
expiries_below-mono a b pairs within =
    let same : a + (b - a) ≡ b = omega arith in
    rw same at (rises a (b - a) pairs)

-- more are below a bound than below an expiry under it
pub expiries_below-strict : (e b : ℕ) (pairs : List Pair) → list_any (λ pair. nat_eq e pair.expiry) pairs ≡ true → e < b
    → expiries_below e pairs + 1 ≤ expiries_below b pairs
expiries_below-strict e b pairs found under =
    let one : cond {A = ℕ} (list_any (λ pair. nat_eq e pair.expiry) pairs) 1 0 ≡ 1 = ap (λ t. cond t 1 0) found in
    omega (arith, expiries_below-next e pairs, one, expiries_below-mono (e + 1) b pairs (omega arith))

-- no pair expires from a on and below b
pub record NoneWithin (a b : ℕ) (pairs : List Pair) : Type 0 where
  pub none : (e : ℕ) → a ≤ e → e < b → list_any (λ pair. nat_eq e pair.expiry) pairs ≡ false

level : (a more : ℕ) (pairs : List Pair) → NoneWithin a (a + more) pairs → expiries_below (a + more) pairs ≡ expiries_below a pairs
level a zero pairs within = rw add-zero refl
level a (suc more) pairs within =
    let same : a + suc more ≡ a + more + 1 = omega arith in
    let zero_more : cond {A = ℕ} (list_any (λ pair. nat_eq (a + more) pair.expiry) pairs) 1 0 ≡ 0 =
    ap (λ t. cond t 1 0) (within.none (a + more) (omega arith) (omega arith)) in
    let before = level a more pairs (record { none = λ e low high. within.none e low (omega arith) }) in
    rw same (omega (arith, expiries_below-next (a + more) pairs, zero_more, before))

-- then as many distinct expiries are below the one as below the other
pub expiries_below-level : (a b : ℕ) (pairs : List Pair) → a ≤ b → NoneWithin a b pairs → expiries_below b pairs ≡ expiries_below a pairs
expiries_below-level a b pairs within none =
    let same : a + (b - a) ≡ b = omega arith in
    rw same at (level a (b - a) pairs (rw same none))
