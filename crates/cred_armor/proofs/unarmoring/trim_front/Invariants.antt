use Rattle.std.proofs.Common.{◌≡◌, length}
use Rattle.cred_armor.specs.Trimming.{trim_front}
use Rattle.cred_armor.proofs.unarmoring.trim_front.Given as goal

abbrev pub invariant-spaces : goal.invariant-spaces
invariant-spaces l = trim_front l.text ≡ trim_front l.fn.text

abbrev pub decreases-spaces : goal.decreases-spaces
decreases-spaces l = length l.text
