-- How one history goes on from another.
use Rattle.std.proofs.Common.{◌≡◌, ℕ, ◌≤◌, nat_eq, Bool, true, false, ◌||◌, List, [], ◌∷◌, ◌++◌, length, sym, ap, ◌∙◌, refl, arith, append_assoc}
use Rattle.std.proofs.lemmas.Bool.{true≢false}
use Rattle.std.proofs.lemmas.List.{append-nil}
use Rattle.std.proofs.lemmas.List.Folds.{list_any-append}
use Rattle.std.proofs.lemmas.Bool.Decides.{Decides-eqb}
use Rattle.munge_types.specs.declared.history.Event.{Event}
use Rattle.replay_gate.specs.GoesOn.{GoesOn}
use Rattle.replay_gate.specs.Makers.{maker, is_of, any_by}

pub not_true : (b : Bool) → (b ≡ true → ⊥) → b ≡ false
not_true true never = absurd (never refl)
not_true false never = refl

pub neither : (a b : Bool) → (a || b) ≡ false → (a ≡ false) × (b ≡ false)
neither true b h = absurd (true≢false h)
neither false b h = (refl, h)

pub both_false : (a b : Bool) → a ≡ false → b ≡ false → (a || b) ≡ false
both_false true b p q = absurd (true≢false p)
both_false false b p q = q

pub one_of : (a b : Bool) (P : Type 0) → (a || b) ≡ true → (a ≡ true → P) → (b ≡ true → P) → P
one_of true b P h f g = f refl
one_of false b P h f g = g h

pub any_by-append : (numbers : List ℕ) (xs ys : List Event) → any_by numbers (xs ++ ys) ≡ (any_by numbers xs || any_by numbers ys)
any_by-append numbers xs ys = list_any-append (λ (event : Event). is_of numbers (maker event)) xs ys

pub is_of-append : (xs ys : List ℕ) (number : ℕ) → is_of (xs ++ ys) number ≡ (is_of xs number || is_of ys number)
is_of-append xs ys number = list_any-append (nat_eq number) xs ys

pub by_nobody : (events : List Event) → any_by [] events ≡ false
by_nobody [] = refl
by_nobody (event ∷ events) = by_nobody events

-- the entries that neither of two passes made
pub by_neither : (xs ys : List ℕ) (events : List Event) → any_by xs events ≡ false → any_by ys events ≡ false
    → any_by (xs ++ ys) events ≡ false
by_neither xs ys [] p q = refl
by_neither xs ys (event ∷ events) p q =
    let a = neither (is_of xs (maker event)) (any_by xs events) p in
    let b = neither (is_of ys (maker event)) (any_by ys events) q in
    both_false _ _ (is_of-append xs ys (maker event) ∙ both_false _ _ a.0 b.0) (by_neither xs ys events a.1 b.1)

-- the number alone
pub only_of : (number other : ℕ) → is_of (number ∷ []) other ≡ true → other ≡ number
only_of number other h = one_of (nat_eq other number) false (other ≡ number) h (λ e. (Decides-eqb other number).0 e) (λ e. absurd (true≢false (sym e)))

pub of_itself : (number : ℕ) → is_of (number ∷ []) number ≡ true
of_itself number = let e = (Decides-eqb number number).1 refl in ap (λ b. b || false) e

-- a history of which no entry is by the pass goes on from any front of it
pub goes_on_fresh : (number : ℕ) (numbers : List ℕ) (seen history : List Event) → any_by (number ∷ []) history ≡ false
    → GoesOn numbers seen history → GoesOn (number ∷ []) seen history
goes_on_fresh number numbers seen history none on = record {
  others = on.others;
  longer_is = on.longer_is;
  of_others = (neither (any_by (number ∷ []) seen) (any_by (number ∷ []) on.others)
      (sym (any_by-append (number ∷ []) seen on.others) ∙ (ap (any_by (number ∷ [])) (sym on.longer_is) ∙ none))).1;
}

-- one entry more, by another pass
pub goes_on_entry : (numbers : List ℕ) (seen history : List Event) (entry : Event) → is_of numbers (maker entry) ≡ false
    → GoesOn numbers seen history → GoesOn numbers seen (history ++ entry ∷ [])
goes_on_entry numbers seen history entry other on = record {
  others = on.others ++ entry ∷ [];
  longer_is = ap (λ h. h ++ entry ∷ []) on.longer_is ∙ append_assoc seen on.others (entry ∷ []);
  of_others = any_by-append numbers on.others (entry ∷ []) ∙ both_false _ _ on.of_others (both_false _ _ other refl);
}

pub goes_on_same : (numbers : List ℕ) (seen : List Event) → GoesOn numbers seen seen
goes_on_same numbers seen = record { others = []; longer_is = sym (append-nil seen); of_others = refl }

pub goes_on_none : (seen history : List Event) → GoesOn [] [] history
goes_on_none seen history = record { others = history; longer_is = refl; of_others = by_nobody history }

-- of two fronts of one list the shorter begins the longer
pub split_at : (xs ys a b : List Event) → xs ++ a ≡ ys ++ b → length xs ≤ length ys
    → (more : List Event) × (ys ≡ xs ++ more) × (a ≡ more ++ b)
split_at [] ys a b e short = (ys, refl, e)
split_at (x ∷ xs) [] a b e short = absurd (omega arith)
split_at (x ∷ xs) (y ∷ ys) a b e short =
    let first : x ≡ y = cc in
    let rest : xs ++ a ≡ ys ++ b = cc in
    let found = split_at xs ys a b rest (omega arith) in
    (found.0, (let h = found.1 in cc), found.2)

-- of two fronts of one history the longer goes on from the shorter, and the history from the longer
pub fronts : (numbers others : List ℕ) (short long history : List Event) → GoesOn numbers short history → GoesOn others long history
    → length short ≤ length long → GoesOn numbers short long × GoesOn numbers long history
fronts numbers others short long history one two below =
    let found = split_at short long one.others two.others (sym one.longer_is ∙ two.longer_is) below in
    let parts = neither (any_by numbers found.0) (any_by numbers two.others)
    (sym (any_by-append numbers found.0 two.others) ∙ (ap (any_by numbers) (sym found.2) ∙ one.of_others)) in (
      record { others = found.0; longer_is = found.1; of_others = parts.0 },
      record { others = two.others; longer_is = two.longer_is; of_others = parts.1 },
    )

-- what goes on without entries of two passes goes on without those of both
pub goes_on_both : (numbers others : List ℕ) (seen history : List Event) → GoesOn numbers seen history → GoesOn others seen history
    → GoesOn (numbers ++ others) seen history
goes_on_both numbers others seen history one two =
    let same : one.others ≡ two.others = same_rest seen one.others two.others (sym one.longer_is ∙ two.longer_is) in record {
      others = one.others;
      longer_is = one.longer_is;
      of_others = by_neither numbers others one.others one.of_others (ap (any_by others) same ∙ two.of_others);
    }
  where
    same_rest : (xs a b : List Event) → xs ++ a ≡ xs ++ b → a ≡ b
    same_rest [] a b e = e
    same_rest (x ∷ xs) a b e = same_rest xs a b (cc)
