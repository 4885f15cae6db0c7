-- What a refusal to open a credential says of its text.
use Rattle.std.specs.Prelude.{ℕ, List}
use Rattle.cred_armor.specs.CredentialText.{IsFramed}
use Rattle.cred_open.specs.OpeningRules.{Refuses}
use Rattle.cred_open.specs.declared.opening.OpenRefused.{OpenRefused}
use Rattle.cred_open.specs.declared.opening.OpenRefused.TheVariants.{Failed, NoMemory}

-- it names the first rule that the text breaks under the key, unless there was no memory
abbrev pub IsRefusal : (key text : List ℕ) → OpenRefused → Type 0
IsRefusal key text (Failed broken) = Refuses key text broken.rule broken.status
IsRefusal key text NoMemory = Unit {0}

-- memory was wanted only for what stands between the marks
abbrev pub WantsMemoryFor : (text : List ℕ) → OpenRefused → Type 0
WantsMemoryFor text (Failed broken) = Unit {0}
WantsMemoryFor text NoMemory = IsFramed text
