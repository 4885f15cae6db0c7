-- What requests are answered under.
use Rattle.std.specs.Prelude.{ℕ, List}
use Rattle.munge_types.specs.declared.identity.Identity.{Identity}
use Rattle.munge_types.specs.declared.settings.Settings.{Settings}
use Rattle.subkeys.specs.Subkeys.{IsOf as AreSubkeysOf}
use Rattle.group_map.specs.GroupMap.{IsOf as IsGroupMapOf}
use Rattle.decode_rules.specs.declared.world.World.{World}

-- the bytes of the files that a world is made of: the key file, the passwd file and the group file
pub record WorldFiles : Type 0 where
  pub key : List ℕ
  pub passwd : List ℕ
  pub group : List ℕ

-- the world has the subkeys of this key file, and the map of these passwd and group files
pub record IsMadeOf (world : World) (files : WorldFiles) : Type 0 where
  pub subkeys : AreSubkeysOf world.subkeys files.key
  pub groups : IsGroupMapOf world.groups files.passwd files.group

-- the files, the settings, and the caller
pub record Terms : Type 0 where
  pub files : WorldFiles
  pub settings : Settings
  pub who : Identity

-- those of a world for a caller, where it is made of these files
abbrev pub terms_of : World → Identity → WorldFiles → Terms
terms_of world who files = record { files = files; settings = world.settings; who = who }
