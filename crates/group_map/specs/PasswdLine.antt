-- A line of a passwd file (passwd(5)), and what it tells.
use Rattle.std.specs.Prelude.{ℕ, Bool, ◌||◌, List, [], ◌∷◌, None, Some, Option, is_some}
use Rattle.std.specs.List.{filter_map}
use Rattle.group_map.specs.Lines.{colon, entry_lines, is_passed_over, lines_of, pieces_of}
use Rattle.group_map.specs.Numbers.{id_of}

-- a UID and a name; the name is not empty, and the field of the GID has one too
abbrev pub user_from : (name : List ℕ) (uid gid : Option ℕ) → Option (ℕ × List ℕ)
user_from [] uid gid = None
user_from (byte ∷ bytes) None gid = None
user_from (byte ∷ bytes) (Some uid) None = None
user_from (byte ∷ bytes) (Some uid) (Some gid) = Some (uid, byte ∷ bytes)

-- just seven fields: name, password, UID, GID, comment, home and shell
abbrev pub user_in : List (List ℕ) → Option (ℕ × List ℕ)
user_in (name ∷ password ∷ uid ∷ gid ∷ comment ∷ home ∷ shell ∷ []) =
    user_from name (id_of uid) (id_of gid)
user_in fields = None

-- the UID and the name of a passwd line, whose fields stand between colons
unfoldable pub user_of : List ℕ → Option (ℕ × List ℕ)
user_of line = user_in (pieces_of colon line)

-- the line may stand in a passwd file
abbrev pub is_passwd_line : List ℕ → Bool
is_passwd_line line = is_passed_over line || is_some (user_of line)

-- the UIDs and names of the lines
abbrev pub users_in : List (List ℕ) → List (ℕ × List ℕ)
users_in lines = filter_map user_of (entry_lines lines)

-- the UIDs and names of a passwd file, in its order
abbrev pub users_of : List ℕ → List (ℕ × List ℕ)
users_of passwd = users_in (lines_of passwd)
