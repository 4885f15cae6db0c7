-- What is read of passwd and group files.
use Rattle.std.specs.Prelude.{◌≡◌, ℕ, ◌<◌, ◌≤◌, Bool, List, [], length}
use Rattle.std.specs.declared.option.Option.{Option}
use Rattle.std.specs.declared.option.Option.TheVariants.{None, Some}
use Rattle.byte_io.specs.Files.{ReadsFile}
use Rattle.group_map.specs.FirstBadLine.{first_bad}
use Rattle.group_map.specs.GroupLine.{is_group_line}
use Rattle.group_map.specs.GroupMap.{GroupTables, IsOf}
use Rattle.group_map.specs.PasswdLine.{is_passwd_line}
use Rattle.munged_files.specs.Ending.{Ending}
use Rattle.munged_files.specs.Ending as ending
use Rattle.munged_files.specs.Unread.{IsUnread}

-- the most bytes of such a file
abbrev pub map_limit : ℕ
map_limit = 16777216

-- the most bytes that are read of it, one more than it may have
abbrev pub map_room : ℕ
map_room = 16777217

-- this was read of the file of that name, and is not too long
pub record HoldsMap (files : Option (List (List ℕ × List ℕ))) (name bytes : List ℕ) : Type 0 where
  pub read : ReadsFile files name map_room bytes
  pub within : length bytes ≤ map_limit

-- the file of that name was not read or has too many bytes, and the program ends so
pub data GivesNoBytes (files : Option (List (List ℕ × List ℕ))) (name : List ℕ) (how : Ending)
    : Type 0 where
  unread : IsUnread name how → GivesNoBytes files name how
  too_long : (bytes : List ℕ) → ReadsFile files name map_room bytes → map_limit < length bytes
      → how ≡ ending.too_long name (length bytes) → GivesNoBytes files name how

-- the lines of the file of that name are right
pub record HoldsRightLines (is_right : List ℕ → Bool)
    (files : Option (List (List ℕ × List ℕ))) (name : List ℕ) : Type 0 where
  pub bytes : List ℕ
  pub holds : HoldsMap files name bytes
  pub right : first_bad is_right bytes ≡ None

-- those of the file that is named are, if one is
abbrev pub AreRight : (is_right : List ℕ → Bool) → (files : Option (List (List ℕ × List ℕ)))
    → (named : Option (List ℕ)) → Type 0
AreRight is_right files None = Unit {0}
AreRight is_right files (Some name) = HoldsRightLines is_right files name

-- the file of that name is refused, and the program ends so
pub data RefusesMap (is_right : List ℕ → Bool) (files : Option (List (List ℕ × List ℕ)))
    (name : List ℕ) (how : Ending) : Type 0 where
  no_bytes : GivesNoBytes files name how → RefusesMap is_right files name how
  -- this is its first line that is not right
  bad_line : (bytes : List ℕ) → HoldsMap files name bytes → (line : ℕ)
      → first_bad is_right bytes ≡ Some line → how ≡ ending.bad_line name line
      → RefusesMap is_right files name how
  -- there was no memory for its lines
  no_memory : how ≡ ending.no_memory → RefusesMap is_right files name how

-- a file is named, and refused
abbrev pub RefusesNamed : (is_right : List ℕ → Bool) → (files : Option (List (List ℕ × List ℕ)))
    → (named : Option (List ℕ)) → (how : Ending) → Type 0
RefusesNamed is_right files None how = ⊥
RefusesNamed is_right files (Some name) how = RefusesMap is_right files name how

-- One of the two files is refused, and the program ends so. The passwd file comes first.
pub data GivesNoMap (files : Option (List (List ℕ × List ℕ))) (passwd group : Option (List ℕ))
    (how : Ending) : Type 0 where
  bad_passwd : RefusesNamed is_passwd_line files passwd how → GivesNoMap files passwd group how
  bad_group : AreRight is_passwd_line files passwd → RefusesNamed is_group_line files group how
      → GivesNoMap files passwd group how

-- neither is
pub record HoldMaps (files : Option (List (List ℕ × List ℕ))) (passwd group : Option (List ℕ))
    : Type 0 where
  pub passwd_right : AreRight is_passwd_line files passwd
  pub group_right : AreRight is_group_line files group

-- these are the bytes of the file of that name, and its lines are right
pub record HasRightLines (is_right : List ℕ → Bool) (files : Option (List (List ℕ × List ℕ)))
    (name bytes : List ℕ) : Type 0 where
  pub holds : HoldsMap files name bytes
  pub right : first_bad is_right bytes ≡ None

-- these are those of the file that is named; where none is, there are none
abbrev pub HasLines : (is_right : List ℕ → Bool) → (files : Option (List (List ℕ × List ℕ)))
    → (named : Option (List ℕ)) → (bytes : List ℕ) → Type 0
HasLines is_right files None bytes = bytes ≡ []
HasLines is_right files (Some name) bytes = HasRightLines is_right files name bytes

-- the map is that of the two files, where they are named
pub record IsMapOf (files : Option (List (List ℕ × List ℕ))) (passwd group : Option (List ℕ))
    (map : GroupTables) : Type 0 where
  pub users : List ℕ
  pub groups : List ℕ
  pub users_read : HasLines is_passwd_line files passwd users
  pub groups_read : HasLines is_group_line files group groups
  pub map_is : IsOf map users groups
