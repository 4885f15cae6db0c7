-- What a purge adds to the tally of a history: nothing.
use Rattle.std.proofs.Common.{◌≡◌, ℕ, ◌+◌, ◌<◌, Bool, false, zero, suc, cond, List, [], ◌∷◌, ◌++◌, length, take, Some, refl, sym, ap, ◌∙◌, subst, arith}
use Rattle.std.proofs.lemmas.List.{take-append-le, length-append}
use Rattle.std.proofs.lemmas.List.FromFn.{length-range_with_len, get_or-range_with_len}
use Rattle.std.proofs.lemmas.List.Elements.{recursion_from_All}
use Rattle.std.specs.List.{AllByRecursion, count_by, range_with_len, slice_get}
use Rattle.munge_types.specs.declared.history.Event.{Event}
use Rattle.munge_types.specs.declared.history.Event.TheVariants.{Purge}
use Rattle.munge_types.specs.declared.history.Verdict.{Verdict}
use Rattle.munge_types.specs.declared.history.Verdict.TheVariants.{Accepted, Expired, Replayed}
use Rattle.worker_pool.specs.Tally.{IsTallyOf, is_look_up, is_said, times_said}
use Rattle.worker_pool.specs.declared.tally.Tally.{Tally}
use Rattle.munged_run.proofs.Counting.{count_by-append, count_by-same}
use Rattle.munged_run.proofs.Ranges.{range_more}

get_front : {A : Type 0} (xs ys : List A) (i : ℕ) → i < length xs → slice_get (xs ++ ys) i ≡ slice_get xs i
get_front [] ys i less = absurd (omega arith)
get_front (x ∷ xs) ys zero less = refl
get_front (x ∷ xs) ys (suc i) less = get_front xs ys i (omega arith)

get_end : {A : Type 0} (xs : List A) (x : A) → slice_get (xs ++ x ∷ []) (length xs) ≡ Some x
get_end [] x = refl
get_end (y ∷ xs) x = get_end xs x

below_all : (n : ℕ) → AllByRecursion (λ place. place < n) (range_with_len 0 n)
below_all n = recursion_from_All (λ place. place < n) (range_with_len 0 n) (λ k d less.
    let within : k < n = omega (arith, length-range_with_len 0 n) in
    subst (λ place. place < n) (sym (get_or-range_with_len 0 n k d within)) (omega arith))

each_of : {X : Type 0} (P Q : X → Type 0) → ((x : X) → P x → Q x) → (xs : List X) → AllByRecursion P xs → AllByRecursion Q xs
each_of P Q f [] all = tt
each_of P Q f (x ∷ xs) all = (f x all.0, each_of P Q f xs all.1)

-- a purge is no verdict, and what was said before it stays said
times_stay : (said : Verdict) (history : List Event) (pass moment : ℕ)
    → times_said said (history ++ Purge pass moment ∷ []) ≡ times_said said history
times_stay said history pass moment =
    let longer : List Event = history ++ Purge pass moment ∷ [] in
    let n : ℕ = length history in
    let p : ℕ → Bool = λ place. is_said said (take place longer) (slice_get longer place) in
    let q : ℕ → Bool = λ place. is_said said (take place history) (slice_get history place) in
    let size : length longer ≡ suc n = length-append history (Purge pass moment ∷ []) ∙ (omega arith) in
    let front : count_by p (range_with_len 0 n) ≡ count_by q (range_with_len 0 n) =
    count_by-same p q (range_with_len 0 n)
    (each_of (λ place. place < n) (λ place. p place ≡ q place) (λ place less.
    rw (take-append-le place history (Purge pass moment ∷ []) (omega arith), get_front history (Purge pass moment ∷ []) place less) refl)
    (range_with_len 0 n) (below_all n)) in
    let last : p n ≡ false = ap (is_said said (take n longer)) (get_end history (Purge pass moment)) in
    let one : count_by p (n ∷ []) ≡ 0 = ap (λ b. 0 + cond {A = ℕ} b 1 0) last in
    let parts : count_by p (range_with_len 0 n ++ n ∷ []) ≡ count_by p (range_with_len 0 n) + count_by p (n ∷ []) = count_by-append p (range_with_len 0 n) (n ∷ []) in
    ap (λ m. count_by p (range_with_len 0 m)) size ∙ (ap (count_by p) (range_more n) ∙ omega (arith, parts, one, front))

looks_stay : (history : List Event) (pass moment : ℕ) → count_by is_look_up (history ++ Purge pass moment ∷ []) ≡ count_by is_look_up history
looks_stay history pass moment =
    let parts : count_by is_look_up (history ++ Purge pass moment ∷ []) ≡ count_by is_look_up history + 0 = count_by-append is_look_up history (Purge pass moment ∷ []) in
    omega (arith, parts)

pub closing_tally : (history : List Event) (pass moment : ℕ) (tally : Tally) → IsTallyOf history tally
    → IsTallyOf (history ++ Purge pass moment ∷ []) tally
closing_tally history pass moment tally is = record {
  presented = is.presented ∙ sym (looks_stay history pass moment);
  accepted = is.accepted ∙ sym (times_stay Accepted history pass moment);
  replayed = is.replayed ∙ sym (times_stay Replayed history pass moment);
  expired = is.expired ∙ sym (times_stay Expired history pass moment);
}
