-- What becomes of a table of names.
use Rattle.std.specs.Prelude.{◌≡◌, ℕ, ◌||◌, List, [], None, Some, Option}
use Rattle.group_map.specs.GroupMap.{GroupTables, has, stands_beside}
use Rattle.group_map.specs.declared.map.Tables.{Tables}

-- the names that stand beside numbers come to those that the table has, and no others
abbrev pub Adds : (old new : List (ℕ × List (List ℕ))) → List (ℕ × List ℕ) → Type 0
Adds old new pairs =
    (number : ℕ) (name : List ℕ)
    → has number name new ≡ (has number name old || stands_beside number name pairs)

-- what contracts see of a map with these tables, or without any
abbrev pub tables_of : Option Tables → GroupTables
tables_of None = record { users = []; lists = [] }
tables_of (Some tables) = record { users = tables.users; lists = tables.lists }
