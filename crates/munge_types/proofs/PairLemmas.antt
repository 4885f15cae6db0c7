-- Equality of pairs.
use Rattle.std.proofs.Common.{◌≡◌, true, subst, List}
use Rattle.std.specs.Bool.{Decides}
use Rattle.std.specs.Cmp.{IsEquivalence, first_so, second_so, on_equiv}
use Rattle.std.specs.Cmp.Lexicographic.{nat_list_eq_equiv, bytes_decides, pointwise}
use Rattle.std.specs.Prelude.{nat_eq}
use Rattle.std.specs.List.{list_any}
use Rattle.std.proofs.lemmas.Bool.Decides.{Decides-eqb}
use Rattle.std.proofs.lemmas.Cmp.{and_equiv, nat_eq_equiv}
use Rattle.munge_types.specs.Pair.{pair_eq}
use Rattle.munge_types.specs.declared.pair.Pair.{Pair}

-- equality of pairs is an equivalence
pub pair_eq-equiv : IsEquivalence pair_eq
pair_eq-equiv = and_equiv (on_equiv (λ (pair : Pair). pair.expiry) nat_eq_equiv) (on_equiv (λ (pair : Pair). pair.mac) nat_list_eq_equiv)

same_pair : (a b : Pair) → pair_eq a b ≡ true → a ≡ b
same_pair a b h =
    let expiry = (Decides-eqb a.expiry b.expiry).0 (first_so (nat_eq a.expiry b.expiry) (pointwise nat_eq a.mac b.mac) h) in
    let mac = (bytes_decides a.mac b.mac).0 (second_so (nat_eq a.expiry b.expiry) (pointwise nat_eq a.mac b.mac) h) in
    λ i. record { expiry = expiry i; mac = mac i }

-- two pairs are equal by the test exactly where they are the same pair
pub pair_eq-Decides : (a b : Pair) → Decides (pair_eq a b) (a ≡ b)
pair_eq-Decides a b = (same_pair a b, λ same. subst (λ (pair : Pair). pair_eq a pair ≡ true) same (pair_eq-equiv.refl a))

-- a pair is sought by the test that has it on either side
pub list_any-flipped : (pairs : List Pair) (pair : Pair)
    → list_any (λ other. pair_eq other pair) pairs ≡ list_any (pair_eq pair) pairs
list_any-flipped pairs pair = λ i. list_any (λ (other : Pair). pair_eq-equiv.symm other pair i) pairs
