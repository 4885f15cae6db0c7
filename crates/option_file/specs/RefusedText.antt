-- What is printed of a refused option file.
use Rattle.std.specs.Prelude.{ℕ, List, ◌++◌, codes}
use Rattle.std.specs.Fmt.{decimal, signed_decimal}
use Rattle.option_file.specs.KeyNames.{name_of}
use Rattle.option_file.specs.declared.refused.OptionRefused.{OptionRefused}
use Rattle.option_file.specs.declared.refused.OptionRefused.TheVariants.{TooLong, NotToml, Unknown, Missing, Wrong, Range, Twice, NoMemory}

abbrev pub refused_text : OptionRefused → List ℕ
refused_text (TooLong size) = codes "too long " ++ decimal size
refused_text NotToml = codes "not toml"
refused_text (Unknown name) = codes "unknown " ++ name
refused_text (Missing key) = codes "missing " ++ name_of key
refused_text (Wrong key) = codes "wrong " ++ name_of key
refused_text (Range key number) = name_of key ++ (codes " out of range " ++ signed_decimal number)
refused_text (Twice at) = codes "socket " ++ (decimal at ++ codes " has an earlier path")
refused_text NoMemory = codes "no memory"
