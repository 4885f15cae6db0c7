-- What is printed of a refusal to seal.
use Rattle.std.specs.Prelude.{ℕ, List, ◌++◌, codes}
use Rattle.std.specs.Fmt.{decimal}
use Rattle.cred_seal.specs.declared.sealing.SealRefused.{SealRefused}
use Rattle.cred_seal.specs.declared.sealing.SealRefused.TheVariants.{BadCipher, BadMac, BadLength, NoMemory}

abbrev pub refused_text : SealRefused → List ℕ
refused_text BadCipher = codes "cipher not supported"
refused_text BadMac = codes "MAC not supported"
refused_text (BadLength size) =
    codes "a payload of " ++ (decimal size ++ codes " bytes is too long")
refused_text NoMemory = codes "no memory"
