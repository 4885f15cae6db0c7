-- What is printed of files that give no map.
use Rattle.std.specs.Prelude.{ℕ, List, ◌++◌, codes}
use Rattle.std.specs.Fmt.{decimal}
use Rattle.group_map.specs.declared.refused.MapRefused.{MapRefused}
use Rattle.group_map.specs.declared.refused.MapRefused.TheVariants.{Passwd, Group, NoMemory}

abbrev pub refused_text : MapRefused → List ℕ
refused_text (Passwd line) = codes "bad passwd line " ++ decimal line
refused_text (Group line) = codes "bad group line " ++ decimal line
refused_text NoMemory = codes "no memory"
