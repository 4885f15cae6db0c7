-- What a `GroupMap` keeps of two files.
use Rattle.std.specs.Prelude.{◌≡◌, ℕ, nat_eq, Bool, false, ◌&&◌, List, None, Some, Option, map}
use Rattle.std.specs.BTreeMap.{is_at}
use Rattle.std.specs.List.{flat_map, list_any}
use Rattle.std.specs.Map.{lookup}
use Rattle.std.specs.Ordering.{nat_cmp}
use Rattle.group_map.specs.GroupLine.{groups_of}
use Rattle.group_map.specs.Membership.{name_eq}
use Rattle.group_map.specs.PasswdLine.{users_of}

-- what contracts see of a `GroupMap`: the names of each UID, and the names that each GID lists
pub record GroupTables : Type 0 where
  pub users : List (ℕ × List (List ℕ))
  pub lists : List (ℕ × List (List ℕ))

-- the name is among them, if there are any
abbrev pub is_among : List ℕ → Option (List (List ℕ)) → Bool
is_among name None = false
is_among name (Some names) = list_any (name_eq name) names

-- the table has this name at this number
abbrev pub has : ℕ → List ℕ → List (ℕ × List (List ℕ)) → Bool
has number name table = is_among name (lookup (is_at (nat_cmp number)) table)

-- this number stands beside this name
abbrev pub stands_beside : ℕ → List ℕ → List (ℕ × List ℕ) → Bool
stands_beside number name pairs =
    list_any (λ pair. nat_eq number pair.0 && name_eq name pair.1) pairs

-- the table has at each number the names that stand beside it, and no others
abbrev pub Holds : List (ℕ × List (List ℕ)) → List (ℕ × List ℕ) → Type 0
Holds table pairs =
    (number : ℕ) (name : List ℕ) → has number name table ≡ stands_beside number name pairs

-- the GIDs, each beside each name that it lists
abbrev pub listings : List (ℕ × List (List ℕ)) → List (ℕ × List ℕ)
listings groups = flat_map (λ group. map (λ name. (group.0, name)) group.1) groups

-- the map is that of the passwd file and the group file with these bytes
pub record IsOf (map : GroupTables) (passwd group : List ℕ) : Type 0 where
  pub users_are : Holds map.users (users_of passwd)
  pub lists_are : Holds map.lists (listings (groups_of group))

-- the map is that of some two files
abbrev pub IsOfFiles : GroupTables → Type 0
IsOfFiles map = ∥ ((passwd : List ℕ) × ((group : List ℕ) × IsOf map passwd group)) ∥₁
