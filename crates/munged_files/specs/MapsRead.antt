-- What is read of a passwd file, and then of a group file beside it.
use Rattle.std.specs.Prelude.{◌≡◌, ℕ, List, []}
use Rattle.std.specs.declared.option.Option.{Option}
use Rattle.std.specs.declared.option.Option.TheVariants.{None}
use Rattle.group_map.specs.FirstBadLine.{first_bad}
use Rattle.group_map.specs.GroupLine.{is_group_line}
use Rattle.group_map.specs.GroupMap.{GroupTables, IsOf}
use Rattle.group_map.specs.PasswdLine.{is_passwd_line}
use Rattle.munged_files.specs.MapFile.{HasLines}

-- these are the bytes of the passwd file, which has right lines, and its map without groups
pub record HasUsers (files : Option (List (List ℕ × List ℕ))) (named : Option (List ℕ))
    (bytes : List ℕ) (map : GroupTables) : Type 0 where
  pub lines : HasLines is_passwd_line files named bytes
  pub right : first_bad is_passwd_line bytes ≡ None
  pub alone : IsOf map bytes []

-- the map is that of these users and of the group file
pub record IsMapBeside (files : Option (List (List ℕ × List ℕ))) (users : List ℕ)
    (named : Option (List ℕ)) (map : GroupTables) : Type 0 where
  pub groups : List ℕ
  pub lines : HasLines is_group_line files named groups
  pub map_is : IsOf map users groups
