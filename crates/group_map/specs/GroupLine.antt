-- A line of a group file (group(5)), and what it tells.
use Rattle.std.specs.Prelude.{ℕ, nat_lt, Bool, ◌||◌, List, [], ◌∷◌, length, filter, None, Some, Option, is_some}
use Rattle.std.specs.List.{filter_map}
use Rattle.group_map.specs.Lines.{colon, comma, entry_lines, is_passed_over, lines_of, pieces_of}
use Rattle.group_map.specs.Numbers.{id_of}

-- a name is not empty
abbrev pub is_name : List ℕ → Bool
is_name name = nat_lt 0 (length name)

-- the names between the commas of a user list; empty ones are passed over
abbrev pub listed_names : List ℕ → List (List ℕ)
listed_names users = filter is_name (pieces_of comma users)

-- a GID and the names that it lists; the group's own name is not empty
abbrev pub group_from : (name : List ℕ) (gid : Option ℕ) (users : List ℕ)
    → Option (ℕ × List (List ℕ))
group_from [] gid users = None
group_from (byte ∷ bytes) None users = None
group_from (byte ∷ bytes) (Some gid) users = Some (gid, listed_names users)

-- just four fields: name, password, GID and user list
abbrev pub group_in : List (List ℕ) → Option (ℕ × List (List ℕ))
group_in (name ∷ password ∷ gid ∷ users ∷ []) = group_from name (id_of gid) users
group_in fields = None

-- the GID of a group line and the names that it lists; its fields stand between colons
unfoldable pub group_of : List ℕ → Option (ℕ × List (List ℕ))
group_of line = group_in (pieces_of colon line)

-- the line may stand in a group file
abbrev pub is_group_line : List ℕ → Bool
is_group_line line = is_passed_over line || is_some (group_of line)

-- the GIDs of the lines, each with the names that its line lists
abbrev pub groups_in : List (List ℕ) → List (ℕ × List (List ℕ))
groups_in lines = filter_map group_of (entry_lines lines)

-- those of a group file, in its order
abbrev pub groups_of : List ℕ → List (ℕ × List (List ℕ))
groups_of group = groups_in (lines_of group)
