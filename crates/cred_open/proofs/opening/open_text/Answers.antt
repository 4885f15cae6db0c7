use Rattle.std.proofs.Common.{ap, Err}
use Rattle.cred_open.specs.OpeningRules.{Refuses}
use Rattle.cred_open.proofs.opening.open_text.Goals as goal

pub returns-in-Err-NotArmor-clause-refused : goal.returns-in-Err-NotArmor-clause-refused
returns-in-Err-NotArmor-clause-refused c =
    λ key of. Refuses.unspelled (c.in-Err-NotArmor.ensures.unspelled (ap Err c.in-Err-NotArmor.field-0-is))
