-- What is printed of a refusal to read a text as an armour.
use Rattle.std.specs.Prelude.{ℕ, List, codes}
use Rattle.cred_armor.specs.declared.unarmoring.ArmorRefused.{ArmorRefused}
use Rattle.cred_armor.specs.declared.unarmoring.ArmorRefused.TheVariants.{NotArmor, NoMemory}

abbrev pub refused_text : ArmorRefused → List ℕ
refused_text NotArmor = codes "not the armour of a body"
refused_text NoMemory = codes "no memory"
