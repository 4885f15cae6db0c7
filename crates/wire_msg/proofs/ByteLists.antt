-- Lists that are bytes, put together and cut.
use Rattle.std.proofs.Common.{◌≡◌, ℕ, ◌+◌, ◌≤◌, ◌-◌, List, [], ◌∷◌, ◌++◌, length, take, drop, zero, suc, refl, arith, inl, inr, lit<}
use Rattle.std.proofs.lemmas.Bool.{cases_lt}
use Rattle.std.proofs.lemmas.List.{get_or-drop, get_or-take, get_or_past, get_or_append_left, get_or-append_right, length-take}
use Rattle.munge_types.specs.Bytes.{IsBytes}

pub none_bytes : IsBytes []
none_bytes i = lit< tt

pub append_bytes : (xs ys : List ℕ) → IsBytes xs → IsBytes ys → IsBytes (xs ++ ys)
append_bytes xs ys first second i =
    elim (cases_lt i (length xs)) [
      | inl inside ↦ rw (get_or_append_left xs ys 0 i inside) (first i)
      | inr past ↦ rw (get_or-append_right xs ys (length xs) i 0 refl past) (second (i - length xs))
    ]

pub take_bytes : (n : ℕ) (xs : List ℕ) → IsBytes xs → IsBytes (take n xs)
take_bytes n xs bytes i =
    elim (cases_lt i n) [
      | inl inside ↦ rw (get_or-take n xs i 0 inside) (bytes i)
      | inr past ↦
          let short : length (take n xs) ≤ i = simp length-take (omega arith) in
          rw (get_or_past (take n xs) i 0 short) (lit< tt)
    ]

pub drop_bytes : (n : ℕ) (xs : List ℕ) → IsBytes xs → IsBytes (drop n xs)
drop_bytes n xs bytes i = rw (get_or-drop n xs i 0) (bytes (n + i))

-- so many zeros
pub zeros : ℕ → List ℕ
zeros zero = []
zeros (suc n) = 0 ∷ zeros n

pub length-zeros : (n : ℕ) → length (zeros n) ≡ n
unfolding zeros
length-zeros zero = refl
length-zeros (suc n) = let same = length-zeros n in omega (arith, same)

pub zeros_bytes : (n : ℕ) → IsBytes (zeros n)
unfolding zeros
zeros_bytes zero i = lit< tt
zeros_bytes (suc n) zero = lit< tt
zeros_bytes (suc n) (suc i) = zeros_bytes n i
