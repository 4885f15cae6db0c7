-- Words drawn six by six.
use Rattle.std.proofs.Common.{◌≡◌, ℕ, ◌+◌, ◌*◌, ◌^◌, ◌<◌, ◌≤◌, List, [], ◌∷◌, ◌++◌, length, map, reverse, zero, suc, Option, Some, None, Bool, true, false, sym, ap, ◌∙◌, refl, subst, arith, length-append}
use Rattle.std.specs.List.{filter, range_with_len}
use Rattle.std.proofs.lemmas.List.{map-append, append-nil, reverse-append}
use Rattle.std.proofs.lemmas.List.Elements.{filter-append}
use Rattle.cred_seal.specs.Dice.{DiceState, next_place}
use Rattle.session_core.specs.OnGate.{Draws}
use Rattle.worker_pool.specs.Drawing.{AreBySix, drawn_of, sixes, with_drawn}
use Rattle.worker_pool.specs.Lanes.{dice_after}
use Rattle.worker_pool.specs.declared.job.Done.{Done}

pub range_push : (a n : ℕ) → range_with_len a (suc n) ≡ range_with_len a n ++ (a + n) ∷ []
range_push a zero = let e : a + 0 ≡ a = omega arith in ap (λ m. m ∷ []) (sym e)
range_push a (suc n) =
    let e : a + 1 + n ≡ a + suc n = omega arith in
    ap (λ l. a ∷ l) (range_push (a + 1) n ∙ ap (λ m. range_with_len (a + 1) n ++ m ∷ []) e)

sixes_push : (n : ℕ) → sixes (n + 1) ≡ sixes n ++ 6 * n ∷ []
sixes_push n =
    let e : suc n ≡ n + 1 = omega arith in
    let z : 0 + n ≡ n = omega arith in
    ap sixes (sym e) ∙ (ap (map (λ k. 6 * k)) (range_push 0 n)
    ∙ (map-append (λ (k : ℕ). 6 * k) (range_with_len 0 n) ((0 + n) ∷ []) ∙ ap (λ m. sixes n ++ 6 * m ∷ []) z))

-- the places with those of one job more
told_by : Option ℕ → List ℕ
told_by None = []
told_by (Some place) = place ∷ []

with_more : (drawn : Option ℕ) (xs ys : List ℕ) → with_drawn drawn (xs ++ ys) ≡ with_drawn drawn xs ++ ys
with_more None xs ys = refl
with_more (Some place) xs ys = refl

with_none : (drawn : Option ℕ) → with_drawn drawn [] ≡ told_by drawn
unfolding told_by
with_none None = refl
with_none (Some place) = refl

drawn_more : {L C : Type 0} (items : List (Done L C)) (done : Done L C) → drawn_of (items ++ done ∷ []) ≡ drawn_of items ++ told_by done.served.drawn
drawn_more [] done = with_none done.served.drawn
drawn_more (x ∷ items) done =
    ap (with_drawn x.served.drawn) (drawn_more items done) ∙ with_more x.served.drawn (drawn_of items) (told_by done.served.drawn)

with_at_most : (drawn : Option ℕ) (places : List ℕ) → length (with_drawn drawn places) ≤ suc (length places)
with_at_most None places = omega arith
with_at_most (Some place) places = omega arith

pub drawn_at_most : {L C : Type 0} (items : List (Done L C)) → length (drawn_of items) ≤ length items
drawn_at_most [] = omega arith
drawn_at_most (x ∷ items) =
    let one = with_at_most x.served.drawn (drawn_of items) in
    let rest = drawn_at_most items in omega arith

by_six_more : (seed places : List ℕ) (old new : DiceState) (drawn : Option ℕ) → old ≡ dice_after seed (length places) → AreBySix places
    → length places < 2 ^ 64 → Draws old new drawn
    → (new ≡ dice_after seed (length (places ++ told_by drawn))) × AreBySix (places ++ told_by drawn)
unfolding told_by
by_six_more seed places old new None is six few same =
    let e = append-nil places in (
      same ∙ (is ∙ ap (λ l. dice_after seed (length l)) (sym e)),
      subst AreBySix (sym e) six,
    )
by_six_more seed places old new (Some place) is six few draws =
    let n = length places in
    let at : old.place ≡ 6 * n = ap (λ (d : DiceState). d.place) is in
    let its : old.seed ≡ seed = ap (λ (d : DiceState). d.seed) is in
    let here : place ≡ 6 * n = draws.0 ∙ at in
    let more : length (places ++ place ∷ []) ≡ n + 1 = length-append places (place ∷ []) in
    let next : next_place old.place ≡ 6 * (n + 1) = ap next_place at ∙ omega arith in (
      draws.1
          ∙ (ap (λ (s : List ℕ). let d : DiceState = record { seed = s; place = next_place old.place } in d) its
          ∙ (ap (λ (p : ℕ). let d : DiceState = record { seed = seed; place = p } in d) next ∙ ap (dice_after seed) (sym more))),
      ap (λ l. l ++ place ∷ []) six ∙ (ap (λ p. sixes n ++ p ∷ []) here ∙ (sym (sixes_push n) ∙ ap sixes (sym more))),
    )

-- the dice and the places drawn so far, with one job more
pub draws_more : {L C : Type 0} (seed : List ℕ) (items : List (Done L C)) (done : Done L C) (old new : DiceState)
    → old ≡ dice_after seed (length (drawn_of items)) → AreBySix (drawn_of items) → length items < 2 ^ 64 → Draws old new done.served.drawn
    → (new ≡ dice_after seed (length (drawn_of (items ++ done ∷ [])))) × AreBySix (drawn_of (items ++ done ∷ []))
draws_more seed items done old new is six few draws =
    let most = drawn_at_most items in
    let both = by_six_more seed (drawn_of items) old new done.served.drawn is six (omega arith) draws in
    let e = sym (drawn_more items done) in (
      subst (λ l. new ≡ dice_after seed (length l)) e both.0,
      subst AreBySix e both.1,
    )

-- ---- the jobs of one worker

pub filter-reverse : {X : Type 0} (p : X → Bool) (xs : List X) → filter p (reverse xs) ≡ reverse (filter p xs)
filter-reverse p [] = refl
filter-reverse {X} p (x ∷ xs) =
    let rest = filter-reverse p xs in
    ap (filter p) (reverse-append (x ∷ []) xs)
    ∙ (filter-append p (reverse xs) (x ∷ [])
    ∙ (ap (λ l. l ++ filter p (x ∷ [])) rest ∙ one (p x) refl))
  where
    one : (b : Bool) → p x ≡ b → reverse (filter p xs) ++ filter p (x ∷ []) ≡ reverse (filter p (x ∷ xs))
    one true e = rw e (sym (reverse-append (x ∷ []) (filter p xs)))
    one false e = rw e (append-nil (reverse (filter p xs)))
