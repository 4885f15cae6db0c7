-- Membership by two tables.
use Rattle.std.proofs.Common.{◌≡◌, ℕ, nat_eq, Bool, true, false, ◌&&◌, List, [], ◌∷◌, Option, Some, None, refl, sym, ◌∙◌, ap}
use Rattle.std.specs.BTreeMap.{is_at}
use Rattle.std.specs.List.{list_any}
use Rattle.std.specs.Map.{lookup}
use Rattle.std.specs.Ordering.{nat_cmp}
use Rattle.group_map.proofs.BoolLemmas.{both_ways, found, halves, list_any-and, list_any-same, together}
use Rattle.group_map.proofs.NameLemmas.{name_eq-itself, same_name}
use Rattle.group_map.proofs.TableLemmas.{stands_beside-listings}
use Rattle.group_map.specs.GroupLine.{groups_of}
use Rattle.group_map.specs.GroupMap.{GroupTables, IsOf, is_among, stands_beside}
use Rattle.group_map.specs.Membership.{is_member, joins, name_eq}
use Rattle.group_map.specs.PasswdLine.{users_of}

-- some name is among both
abbrev pub meets : Option (List (List ℕ)) → Option (List (List ℕ)) → Bool
meets None listed = false
meets (Some names) listed = list_any (λ name. is_among name listed) names

-- no names are among none
pub meets-none : (names : Option (List (List ℕ))) → meets names None ≡ false
meets-none None = refl
meets-none (Some []) = refl
meets-none (Some (name ∷ names)) = meets-none (Some names)

-- a user of that number, whose name is listed
listed_user : ℕ → Option (List (List ℕ)) → (ℕ × List ℕ) → Bool
listed_user uid listed user = nat_eq uid user.0 && is_among user.1 listed

meets-from : (uid : ℕ) (names listed : Option (List (List ℕ))) (users : List (ℕ × List ℕ))
    → ((x : List ℕ) → is_among x names ≡ stands_beside uid x users)
    → meets names listed ≡ true → list_any (listed_user uid listed) users ≡ true
unfolding listed_user
meets-from uid None listed users are is = absurd (cc is)
meets-from uid (Some names) listed users are is =
    let name = found (λ name. is_among name listed) names is in
    let user = found (λ user. nat_eq uid user.0 && name_eq name.0 user.1) users (sym (are name.0) ∙ name.2 (name_eq name.0) (name_eq-itself name.0)) in
    let parts = halves (nat_eq uid user.0.0) (name_eq name.0 user.0.1) user.1 in
    user.2 (listed_user uid listed)
    (together (nat_eq uid user.0.0) (is_among user.0.1 listed) parts.0
    (ap (λ x. is_among x listed) (sym (same_name name.0 user.0.1 parts.1)) ∙ name.1))

meets-to : (uid : ℕ) (names listed : Option (List (List ℕ))) (users : List (ℕ × List ℕ))
    → ((x : List ℕ) → is_among x names ≡ stands_beside uid x users)
    → list_any (listed_user uid listed) users ≡ true → meets names listed ≡ true
unfolding listed_user
meets-to uid names listed users are is =
    let user = found (listed_user uid listed) users is in
    let parts = halves (nat_eq uid user.0.0) (is_among user.0.1 listed) user.1 in
    let own = user.2 (λ other. nat_eq uid other.0 && name_eq user.0.1 other.1)
    (together (nat_eq uid user.0.0) (name_eq user.0.1 user.0.1) parts.0 (name_eq-itself user.0.1)) in
    among names user.0.1 (are user.0.1 ∙ own) parts.1
  where
    among : (names : Option (List (List ℕ))) (x : List ℕ) → is_among x names ≡ true → is_among x listed ≡ true → meets names listed ≡ true
    among None x is too = absurd (cc is)
    among (Some names) x is too =
        let name = found (name_eq x) names is in
        name.2 (λ other. is_among other listed) (ap (λ y. is_among y listed) (sym (same_name x name.0 name.1)) ∙ too)

-- the tables of two files say who is a member
pub member-is : (tables : GroupTables) (passwd group : List ℕ) (uid gid : ℕ) → IsOf tables passwd group
    → meets (lookup (is_at (nat_cmp uid)) tables.users) (lookup (is_at (nat_cmp gid)) tables.lists) ≡ is_member passwd group uid gid
unfolding is_member listed_user
member-is tables passwd group uid gid is =
    both_ways _ _
    (meets-from uid (lookup (is_at (nat_cmp uid)) tables.users) listed (users_of passwd) (is.users_are uid))
    (meets-to uid (lookup (is_at (nat_cmp uid)) tables.users) listed (users_of passwd) (is.users_are uid))
    ∙ sym (list_any-same (λ user. list_any (joins uid gid user) (groups_of group)) (listed_user uid listed) each (users_of passwd))
  where
    listed : Option (List (List ℕ))
    listed = lookup (is_at (nat_cmp gid)) tables.lists

    each : (user : ℕ × List ℕ) → list_any (joins uid gid user) (groups_of group) ≡ listed_user uid listed user
    each user =
        list_any-and (nat_eq uid user.0) (λ g. nat_eq gid g.0 && list_any (name_eq user.1) g.1) (groups_of group)
        ∙ ap (λ t. nat_eq uid user.0 && t) (sym (stands_beside-listings gid user.1 (groups_of group)) ∙ sym (is.lists_are gid user.1))
