-- What the lines of a passwd or a group file come to.
use Rattle.std.proofs.Common.{◌≡◌, ℕ, Bool, List, [], Option, None, Some, refl, sym, subst}
use Rattle.group_map.specs.FirstBadLine.{first_bad}
use Rattle.group_map.specs.GroupMap.{GroupTables, IsOf}
use Rattle.group_map.specs.Lines.{lines_of}
use Rattle.group_map.specs.PasswdLine.{is_passwd_line}
use Rattle.munged_files.specs.Ending.{Ending}
use Rattle.munged_files.specs.MapFile.{RefusesMap, RefusesNamed}
use Rattle.munged_files.specs.MapsRead.{HasUsers}

-- an empty file has no bad line
none_is_bad : (is_right : List ℕ → Bool) → first_bad is_right [] ≡ None
unfolding lines_of
none_is_bad is_right = refl

-- no passwd file is named
pub no_users : (files : Option (List (List ℕ × List ℕ))) (named : Option (List ℕ))
    (map : GroupTables) → named ≡ None → IsOf map [] [] → HasUsers files named [] map
no_users files named map none alone =
    subst (λ n. HasUsers files n [] map) (sym none)
    (record { lines = refl; right = none_is_bad is_passwd_line; alone = alone })

-- a file whose lines are right has no bad one
pub not_both : (found : Option ℕ) (line : ℕ) → found ≡ None → found ≡ Some line → ⊥
not_both found line none is = cc

-- nor has an empty file
pub no_bad_line : (is_right : List ℕ → Bool) (line : ℕ) → first_bad is_right [] ≡ Some line → ⊥
no_bad_line is_right line is = not_both _ _ (none_is_bad is_right) is

-- a file that is named and refused
pub refuses_named : (is_right : List ℕ → Bool) (files : Option (List (List ℕ × List ℕ)))
    (named : Option (List ℕ)) (name : List ℕ) (how : Ending) → named ≡ Some name
    → RefusesMap is_right files name how → RefusesNamed is_right files named how
refuses_named is_right files named name how is refuses =
    subst (λ n. RefusesNamed is_right files n how) (sym is) refuses
