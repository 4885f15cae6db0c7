-- What a daemon reads of the files that an option file names.
use Rattle.std.specs.Prelude.{◌≡◌, ℕ, List}
use Rattle.std.specs.declared.option.Option.{Option}
use Rattle.decode_rules.specs.Terms.{IsMadeOf}
use Rattle.decode_rules.specs.declared.world.World.{World}
use Rattle.group_map.specs.GroupLine.{is_group_line}
use Rattle.group_map.specs.PasswdLine.{is_passwd_line}
use Rattle.munge_types.specs.declared.settings.Settings.{Settings}
use Rattle.option_file.specs.Configuration.{Configuration}
use Rattle.munged_files.specs.Ending.{Ending}
use Rattle.munged_files.specs.KeyFile.{GivesNoKey, HoldsKey}
use Rattle.munged_files.specs.MapFile.{GivesNoMap, HasLines}
use Rattle.munged_files.specs.SeedFile.{AreSeedsIn, GivesNoSeeds}

-- the settings are those of the options
pub record AreSettingsOf (said : Configuration) (settings : Settings) : Type 0 where
  pub max_ttl : settings.max_ttl ≡ said.max_ttl
  pub default_ttl : settings.default_ttl ≡ said.default_ttl
  pub skew : settings.skew ≡ said.skew
  pub addr : settings.addr ≡ said.addr

-- The world has the settings of the options, and is made of the key file, the passwd file and the
-- group file that they name; and these are the seeds of so many workers as they say.
pub record ReadsWorld (files : Option (List (List ℕ × List ℕ))) (said : Configuration)
    (world : World) (seeds : List (List ℕ)) : Type 0 where
  pub key : List ℕ
  pub key_read : HoldsKey files said.key key
  pub seeds_read : AreSeedsIn files said.seed said.workers seeds
  pub passwd : List ℕ
  pub passwd_read : HasLines is_passwd_line files said.passwd passwd
  pub group : List ℕ
  pub group_read : HasLines is_group_line files said.group group
  pub made : IsMadeOf world (record { key = key; passwd = passwd; group = group })
  pub settings : AreSettingsOf said world.settings

-- a file that the options name is refused, and the program ends so; they are read in this order
pub data RefusesWorld (files : Option (List (List ℕ × List ℕ))) (said : Configuration)
    (how : Ending) : Type 0 where
  bad_key : GivesNoKey files said.key how → RefusesWorld files said how
  bad_seed : (key : List ℕ) → HoldsKey files said.key key
      → GivesNoSeeds files said.seed said.workers how → RefusesWorld files said how
  bad_map : (key : List ℕ) → HoldsKey files said.key key → (seeds : List (List ℕ))
      → AreSeedsIn files said.seed said.workers seeds
      → GivesNoMap files said.passwd said.group how → RefusesWorld files said how
