-- What is said of a key file that is refused.
use Rattle.std.specs.Prelude.{ℕ, List, ◌++◌, codes}
use Rattle.std.specs.Fmt.{decimal}
use Rattle.subkeys.specs.declared.subkeys.KeyRefused.{KeyRefused}
use Rattle.subkeys.specs.declared.subkeys.KeyRefused.TheVariants.{TooShort, TooLong}

abbrev pub refusal_text : KeyRefused → List ℕ
refusal_text (TooShort length) =
    codes "a key file of " ++ decimal length ++ codes " bytes is too short"
refusal_text (TooLong length) =
    codes "a key file of " ++ decimal length ++ codes " bytes is too long"
