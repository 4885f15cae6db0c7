-- What is printed of a refusal.
use Rattle.std.specs.Prelude.{ℕ, List, codes}
use Rattle.cred_outer.specs.RefusedText.{broken_text}
use Rattle.cred_open.specs.declared.opening.OpenRefused.{OpenRefused}
use Rattle.cred_open.specs.declared.opening.OpenRefused.TheVariants.{Failed, NoMemory}

abbrev pub refused_text : OpenRefused → List ℕ
refused_text (Failed broken) = broken_text broken
refused_text NoMemory = codes "no memory"
