-- Counting the elements of lists.
use Rattle.std.proofs.Common.{◌≡◌, ℕ, ◌+◌, ◌<◌, Bool, true, false, zero, suc, nat_eq, nat_lt, cond, List, [], ◌∷◌, ◌++◌, length, map, refl, sym, ap, ◌∙◌, subst, arith}
use Rattle.std.proofs.lemmas.Bool.Decides.{nat_tests}
use Rattle.std.proofs.lemmas.List.Sums.{sum_by-append, sum_by-cons}
use Rattle.std.specs.List.{AllByRecursion, count_by}

pub count_by-append : {X : Type 0} (p : X → Bool) (xs ys : List X) → count_by p (xs ++ ys) ≡ count_by p xs + count_by p ys
count_by-append p xs ys = sum_by-append (λ x. cond (p x) 1 0) xs ys

-- one or none
abbrev one_if : Bool → ℕ
one_if passes = cond {A = ℕ} passes 1 0

count_by-cons : {X : Type 0} (p : X → Bool) (x : X) (xs : List X) → count_by p (x ∷ xs) ≡ one_if (p x) + count_by p xs
count_by-cons p x xs = sum_by-cons (λ x. cond (p x) 1 0) x xs

-- by tests that agree on each element
pub count_by-same : {X : Type 0} (p q : X → Bool) (xs : List X) → AllByRecursion (λ x. p x ≡ q x) xs → count_by p xs ≡ count_by q xs
count_by-same p q [] same = refl
count_by-same p q (x ∷ xs) same =
    count_by-cons p x xs
    ∙ (ap (λ b. one_if b + count_by p xs) same.0
    ∙ (ap (λ n. one_if (q x) + n) (count_by-same p q xs same.1) ∙ sym (count_by-cons q x xs)))

-- the elements of a list that was mapped
pub count_by-map : {X Y : Type 0} (p : Y → Bool) (f : X → Y) (xs : List X) → count_by p (map f xs) ≡ count_by (λ x. p (f x)) xs
count_by-map p f [] = refl
count_by-map p f (x ∷ xs) =
    count_by-cons p (f x) (map f xs)
    ∙ (ap (λ n. one_if (p (f x)) + n) (count_by-map p f xs) ∙ sym (count_by-cons (λ x. p (f x)) x xs))

-- those below a number are all, where all are
all_below : (k : ℕ) (xs : List ℕ) → AllByRecursion (λ x. x < k) xs → count_by (λ x. nat_lt x k) xs ≡ length xs
all_below k [] below = refl
all_below k (x ∷ xs) below =
    let less : x < k = below.0 in
    let is : nat_lt x k ≡ true = grind (arith, nat_tests) in
    let rest : count_by (λ y. nat_lt y k) xs ≡ length xs = all_below k xs below.1 in
    let here : one_if (nat_lt x k) ≡ 1 = ap one_if is in
    let parts : count_by (λ y. nat_lt y k) (x ∷ xs) ≡ one_if (nat_lt x k) + count_by (λ y. nat_lt y k) xs = count_by-cons (λ y. nat_lt y k) x xs in
    omega (arith, rest, here, parts)

none_below : (xs : List ℕ) → count_by (λ x. nat_lt x 0) xs ≡ 0
none_below [] = refl
none_below (x ∷ xs) =
    let is : nat_lt x 0 ≡ false = grind (arith, nat_tests) in
    let here : one_if (nat_lt x 0) ≡ 0 = ap one_if is in
    let rest : count_by (λ y. nat_lt y 0) xs ≡ 0 = none_below xs in
    let parts : count_by (λ y. nat_lt y 0) (x ∷ xs) ≡ one_if (nat_lt x 0) + count_by (λ y. nat_lt y 0) xs = count_by-cons (λ y. nat_lt y 0) x xs in
    omega (arith, here, rest, parts)

-- one more number below which they are
one_more : (k : ℕ) (xs : List ℕ) → count_by (λ x. nat_lt x (k + 1)) xs ≡ count_by (λ x. nat_lt x k) xs + count_by (nat_eq k) xs
one_more k [] = refl
one_more k (x ∷ xs) =
    let rest : count_by (λ x. nat_lt x (k + 1)) xs ≡ count_by (λ x. nat_lt x k) xs + count_by (nat_eq k) xs = one_more k xs in
    let here : one_if (nat_lt x (k + 1)) ≡ one_if (nat_lt x k) + one_if (nat_eq k x) = grind (arith, nat_tests) in
    let above : count_by (λ y. nat_lt y (k + 1)) (x ∷ xs) ≡ one_if (nat_lt x (k + 1)) + count_by (λ y. nat_lt y (k + 1)) xs = count_by-cons (λ y. nat_lt y (k + 1)) x xs in
    let below : count_by (λ y. nat_lt y k) (x ∷ xs) ≡ one_if (nat_lt x k) + count_by (λ y. nat_lt y k) xs = count_by-cons (λ y. nat_lt y k) x xs in
    let at : count_by (nat_eq k) (x ∷ xs) ≡ one_if (nat_eq k x) + count_by (nat_eq k) xs = count_by-cons (nat_eq k) x xs in
    omega (arith, rest, here, above, below, at)

-- where each number below a bound stands once, those below it are as many
once_below : (k : ℕ) (xs : List ℕ) → ((n : ℕ) → n < k → count_by (nat_eq n) xs ≡ 1) → count_by (λ x. nat_lt x k) xs ≡ k
once_below zero xs once = none_below xs
once_below (suc k) xs once =
    let before : count_by (λ x. nat_lt x k) xs ≡ k = once_below k xs (λ n less. once n (omega arith)) in
    let here : count_by (nat_eq k) xs ≡ 1 = once k (omega arith) in
    let more : count_by (λ x. nat_lt x (k + 1)) xs ≡ count_by (λ x. nat_lt x k) xs + count_by (nat_eq k) xs = one_more k xs in
    let next : k + 1 ≡ suc k = omega arith in
    subst (λ m. count_by (λ x. nat_lt x m) xs ≡ m) next (more ∙ (ap (λ n. n + count_by (nat_eq k) xs) before ∙ ap (λ n. k + n) here))

-- numbers below a bound, each of which stands once, are as many as the bound
pub each_once : (k : ℕ) (xs : List ℕ) → AllByRecursion (λ x. x < k) xs
    → ((n : ℕ) → n < k → count_by (nat_eq n) xs ≡ 1) → length xs ≡ k
each_once k xs below once = sym (all_below k xs below) ∙ once_below k xs once
