-- Names, and sets of them.
use Rattle.std.proofs.Common.{◌≡◌, ℕ, Bool, true, false, ◌||◌, cond, List, refl, sym, ◌∙◌, ap}
use Rattle.std.specs.BTreeMap.{is_at}
use Rattle.std.specs.Cmp.Lexicographic.{bytes_decides, nat_list_eq_equiv, slice_cmp, texts_ties}
use Rattle.std.specs.List.{list_any}
use Rattle.std.specs.Ordering.{nat_cmp}
use Rattle.group_map.proofs.BoolLemmas.{both_ways, found, list_any-same}
use Rattle.group_map.specs.Membership.{name_eq}

-- equal names are one
pub same_name : (first second : List ℕ) → name_eq first second ≡ true → first ≡ second
same_name first second is = (bytes_decides first second).0 is

pub name_eq-itself : (name : List ℕ) → name_eq name name ≡ true
name_eq-itself name = (bytes_decides name name).1 refl

pub name_eq-symm : (first second : List ℕ) → name_eq first second ≡ name_eq second first
name_eq-symm = nat_list_eq_equiv.symm

-- what an ordered set finds is what equals the name
pub list_any-ordered : (name : List ℕ) (names : List (List ℕ)) → list_any (is_at (slice_cmp nat_cmp name)) names ≡ list_any (name_eq name) names
list_any-ordered name names = list_any-same (is_at (slice_cmp nat_cmp name)) (name_eq name) (λ other. sym (texts_ties name other)) names

-- a name put into an ordered set
pub inserted : (name sought : List ℕ) (old new : List (List ℕ))
    → list_any (is_at (slice_cmp nat_cmp sought)) new
    ≡ cond (is_at (slice_cmp nat_cmp name) sought) true (list_any (is_at (slice_cmp nat_cmp sought)) old)
    → list_any (name_eq sought) new ≡ name_eq sought name || list_any (name_eq sought) old
inserted name sought old new is =
    sym (list_any-ordered sought new) ∙ is
    ∙ ap (λ t. cond t true (list_any (is_at (slice_cmp nat_cmp sought)) old)) (sym (texts_ties name sought) ∙ name_eq-symm name sought)
    ∙ ap (λ t. cond (name_eq sought name) true t) (list_any-ordered sought old)
    ∙ as_or (name_eq sought name) (list_any (name_eq sought) old)
  where
    as_or : (a b : Bool) → cond a true b ≡ a || b
    as_or true b = refl
    as_or false b = refl

-- it does not matter from which side two lists of names are looked at
pub meet-symm : (names others : List (List ℕ))
    → list_any (λ name. list_any (name_eq name) others) names ≡ list_any (λ name. list_any (name_eq name) names) others
meet-symm names others = both_ways _ _ (across names others) (across others names)
  where
    across : (names others : List (List ℕ)) → list_any (λ name. list_any (name_eq name) others) names ≡ true
        → list_any (λ name. list_any (name_eq name) names) others ≡ true
    across names others is =
        let one = found (λ name. list_any (name_eq name) others) names is in
        let other = found (name_eq one.0) others one.1 in
        other.2 (λ name. list_any (name_eq name) names) (one.2 (name_eq other.0) (name_eq-symm other.0 one.0 ∙ other.1))
