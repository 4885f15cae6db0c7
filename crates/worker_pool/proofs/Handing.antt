-- Passes of the queue, handed out and taken back, the last one first.
use Rattle.std.proofs.Common.{◌≡◌, ℕ, ◌+◌, suc, List, [], ◌∷◌, ◌++◌, map, reverse, sym, ap, ◌∙◌, arith, append_assoc}
use Rattle.std.specs.List.{range_with_len}
use Rattle.std.specs.Prelude.{sum_by, flat_map}
use Rattle.std.proofs.lemmas.List.{append-nil, map-append, reverse-append}
use Rattle.std.proofs.lemmas.List.Sums.{sum_by-cons}
use Rattle.std.proofs.lemmas.List.Concat.{flat_map-cons}
use Rattle.worker_pool.proofs.Drawings.{range_push}

pub range_last : (whole rest : ℕ) → whole ≡ rest + 1
    → range_with_len 0 whole ≡ range_with_len 0 rest ++ rest ∷ []
range_last whole rest e =
    let one : whole ≡ suc rest = omega arith in
    let z : 0 + rest ≡ rest = omega arith in
    ap (range_with_len 0) one ∙ (range_push 0 rest ∙ ap (λ m. range_with_len 0 rest ++ m ∷ []) z)

module _ {X : Type 0} where
  pub map_back : {Y : Type 0} (f : X → Y) (xs : List X) (x : X)
      → map f (reverse (xs ++ x ∷ [])) ≡ f x ∷ map f (reverse xs)
  map_back f xs x = ap (map f) (reverse-append xs (x ∷ []))

  -- what was the last of some is now the first of others
  pub moved_back : {Y : Type 0} (f : X → Y) (ys rest : List Y) (y : Y) (xs : List X) (x : X)
      (all : List Y) → f x ≡ y → ys ≡ rest ++ y ∷ []
      → ys ++ map f (reverse xs) ≡ all → rest ++ map f (reverse (xs ++ x ∷ [])) ≡ all
  moved_back f ys rest y xs x all is split before =
      ap (λ l. rest ++ l) (map_back f xs x)
      ∙ (ap (λ z. rest ++ z ∷ map f (reverse xs)) is
      ∙ (sym (append_assoc rest (y ∷ []) (map f (reverse xs)))
      ∙ (ap (λ l. l ++ map f (reverse xs)) (sym split) ∙ before)))

  -- the other way
  pub moved_out : {Y : Type 0} (f : X → Y) (ys : List Y) (xs rest : List X) (x : X) (all : List Y)
      → xs ≡ rest ++ x ∷ []
      → ys ++ map f (reverse xs) ≡ all → (ys ++ f x ∷ []) ++ map f (reverse rest) ≡ all
  moved_out f ys xs rest x all split before =
      append_assoc ys (f x ∷ []) (map f (reverse rest))
      ∙ (ap (λ l. ys ++ l) (sym (map_back f rest x) ∙ ap (λ l. map f (reverse l)) (sym split))
      ∙ before)

  pub flat_out : {T : Type 0} (f : X → List T) (before after : List T) (xs rest : List X) (x : X)
      (all : List T) → xs ≡ rest ++ x ∷ [] → after ≡ before ++ f x
      → before ++ flat_map f (reverse xs) ≡ all → after ++ flat_map f (reverse rest) ≡ all
  flat_out f before after xs rest x all split more is =
      let first : flat_map f (reverse xs) ≡ f x ++ flat_map f (reverse rest) =
      ap (λ l. flat_map f (reverse l)) split
      ∙ (ap (flat_map f) (reverse-append rest (x ∷ [])) ∙ flat_map-cons f x (reverse rest)) in
      ap (λ l. l ++ flat_map f (reverse rest)) more
      ∙ (append_assoc before (f x) (flat_map f (reverse rest))
      ∙ (ap (λ l. before ++ l) (sym first) ∙ is))

  pub sum_out : (f : X → ℕ) (before after : ℕ) (xs rest : List X) (x : X) (all : ℕ)
      → xs ≡ rest ++ x ∷ [] → after ≡ before + f x
      → before + sum_by f (reverse xs) ≡ all → after + sum_by f (reverse rest) ≡ all
  sum_out f before after xs rest x all split more is =
      let first : sum_by f (reverse xs) ≡ f x + sum_by f (reverse rest) =
      ap (λ l. sum_by f (reverse l)) split
      ∙ (ap (sum_by f) (reverse-append rest (x ∷ [])) ∙ sum_by-cons f x (reverse rest)) in
      omega arith

-- ---- a list that is taken off the end and written down, and then turned round

module _ {X Y : Type 0} (f : X → Y) where
  pub let_out_none : (xs : List X) (ys : List Y) → ys ≡ [] → map f xs ++ reverse ys ≡ map f xs
  let_out_none xs ys none = ap (λ l. map f xs ++ reverse l) none ∙ append-nil (map f xs)

  pub let_out_one : (xs rest : List X) (x : X) (ys all : List Y) → xs ≡ rest ++ x ∷ [] → map f xs ++ reverse ys ≡ all
      → map f rest ++ reverse (ys ++ f x ∷ []) ≡ all
  let_out_one xs rest x ys all split is =
      ap (λ l. map f rest ++ l) (reverse-append ys (f x ∷ []))
      ∙ (sym (append_assoc (map f rest) (f x ∷ []) (reverse ys))
      ∙ (ap (λ l. l ++ reverse ys) (sym (map-append f rest (x ∷ [])) ∙ ap (map f) (sym split)) ∙ is))

  pub let_out_all : (xs : List X) (ys all : List Y) → xs ≡ [] → map f xs ++ reverse ys ≡ all → reverse ys ≡ all
  let_out_all xs ys all none is = sym (ap (λ l. map f l ++ reverse ys) none) ∙ is
