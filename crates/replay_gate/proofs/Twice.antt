-- Of two look-ups of one pair in one history not both accept it.
use Rattle.std.proofs.Common.{◌≡◌, ◌≢◌, ℕ, ◌<◌, List, [], ◌∷◌, ◌++◌, length, sym, ap, ◌∙◌, subst, arith, append_assoc, length-append}
use Rattle.std.proofs.lemmas.List.{append-nil}
use mathlib.Core.Logic.{dite}
use native.Mathlib.Decide.{ℕ_discrete, dec_le}
use Rattle.munge_types.proofs.HistoryLemmas.{accepted_once}
use Rattle.munge_types.specs.History.{verdict}
use Rattle.munge_types.specs.declared.history.Event.{Event}
use Rattle.munge_types.specs.declared.history.Event.TheVariants.{Admit}
use Rattle.munge_types.specs.declared.history.Verdict.TheVariants.{Accepted}
use Rattle.munge_types.specs.declared.pair.Pair.{Pair}
use Rattle.replay_gate.specs.GoesOn.{GoesOn}
use Rattle.replay_gate.proofs.Histories.{split_at}

last_same : (xs ys : List Event) (a b : Event) → xs ++ a ∷ [] ≡ ys ++ b ∷ [] → a ≡ b
last_same [] [] a b e = cc
last_same [] (y ∷ ys) a b e = let n = ap length e in let l = length-append ys (b ∷ []) in absurd (omega arith)
last_same (x ∷ xs) [] a b e = let n = ap length e in let l = length-append xs (a ∷ []) in absurd (omega arith)
last_same (x ∷ xs) (y ∷ ys) a b e = last_same xs ys a b (cc)

-- the look-up that comes later does not accept what the earlier one accepted
later : (before after longer : List Event) (o p : List Event) (number other : ℕ) (pair : Pair) (moment late : ℕ)
    → longer ≡ (before ++ Admit number pair moment ∷ []) ++ o → longer ≡ (after ++ Admit other pair late ∷ []) ++ p
    → length before < length after → verdict before pair moment ≡ Accepted → verdict after pair late ≡ Accepted → ⊥
later before after longer o p number other pair moment late one two below is too =
    let l = length-append before (Admit number pair moment ∷ []) in
    let found = split_at (before ++ Admit number pair moment ∷ []) after o (Admit other pair late ∷ p)
    (sym one ∙ (two ∙ append_assoc after (Admit other pair late ∷ []) p)) (omega arith) in
    accepted_once before found.0 number pair moment late is (subst (λ (h : List Event). verdict h pair late ≡ Accepted) found.1 too)

pub not_both : (before after longer : List Event) (numbers others : List ℕ) (number other : ℕ) (pair : Pair) (moment : ℕ) → number ≢ other
    → GoesOn numbers (before ++ Admit number pair moment ∷ []) longer → GoesOn others (after ++ Admit other pair moment ∷ []) longer
    → verdict before pair moment ≡ Accepted → verdict after pair moment ≡ Accepted → ⊥
not_both before after longer numbers others number other pair moment apart one two is too =
    dite (ℕ_discrete (length before) (length after))
    (λ e.
    let l = length-append before (Admit number pair moment ∷ []) in
    let k = length-append after (Admit other pair moment ∷ []) in
    let found = split_at (before ++ Admit number pair moment ∷ []) (after ++ Admit other pair moment ∷ []) one.others two.others
    (sym one.longer_is ∙ two.longer_is) (omega arith) in
    let m = ap length found.1 in
    let j = length-append (before ++ Admit number pair moment ∷ []) found.0 in
    let none : length found.0 ≡ 0 = omega arith in
    apart (same_number (last_same before after (Admit number pair moment) (Admit other pair moment) (sym (whole (after ++ Admit other pair moment ∷ []) (before ++ Admit number pair moment ∷ []) found.0 none found.1)))))
    (λ ne. dite (dec_le (length before) (length after))
    (λ below. later before after longer one.others two.others number other pair moment moment one.longer_is two.longer_is (omega arith) is too)
    (λ above. later after before longer two.others one.others other number pair moment moment two.longer_is one.longer_is (omega arith) too is))
  where
    same_number : Admit number pair moment ≡ Admit other pair moment → number ≡ other
    same_number e = cc

    whole : (ys xs more : List Event) → length more ≡ 0 → ys ≡ xs ++ more → ys ≡ xs
    whole ys xs [] none e = e ∙ append-nil xs
    whole ys xs (x ∷ more) none e = absurd (omega arith)
