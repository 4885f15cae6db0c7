use Rattle.std.proofs.Common.{◌≡◌, length}
use Rattle.cred_armor.specs.Trimming.{trim_back}
use Rattle.cred_armor.proofs.unarmoring.trim_back.Given as goal

abbrev pub invariant-spaces : goal.invariant-spaces
invariant-spaces l = trim_back l.text ≡ trim_back l.fn.text

abbrev pub decreases-spaces : goal.decreases-spaces
decreases-spaces l = length l.text
