use Rattle.cred_outer.proofs.Parts.{parts_unbroken}
use Rattle.cred_outer.proofs.laws.parts_break_no_rule.Goals as goal

pub returns : goal.returns
returns c = parts_unbroken
