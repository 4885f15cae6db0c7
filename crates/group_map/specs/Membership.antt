-- Which users are members of which groups.
use Rattle.std.specs.Prelude.{ℕ, nat_eq, Bool, ◌&&◌, List}
use Rattle.std.specs.Cmp.Lexicographic.{pointwise}
use Rattle.std.specs.List.{list_any}
use Rattle.group_map.specs.GroupLine.{groups_of}
use Rattle.group_map.specs.PasswdLine.{users_of}

-- the names are the same, byte for byte
abbrev pub name_eq : List ℕ → List ℕ → Bool
name_eq first second = pointwise nat_eq first second

-- a passwd line has this UID, a group line has this GID, and the one lists the other's name
abbrev pub joins : (uid gid : ℕ) → (ℕ × List ℕ) → (ℕ × List (List ℕ)) → Bool
joins uid gid user group =
    nat_eq uid user.0 && (nat_eq gid group.0 && list_any (name_eq user.1) group.1)

-- The UID is a member of the GID: some line of the passwd file with that UID has a name that some
-- line of the group file with that GID lists. The GID field of a passwd line plays no part.
unfoldable pub is_member : (passwd group : List ℕ) (uid gid : ℕ) → Bool
is_member passwd group uid gid =
    list_any (λ user. list_any (joins uid gid user) (groups_of group)) (users_of passwd)
