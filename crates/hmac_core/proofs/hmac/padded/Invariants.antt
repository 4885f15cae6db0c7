use Rattle.std.proofs.Common.{◌≡◌, ◌-◌, ◌++◌, take}
use Rattle.std.proofs.Math.ListN.{replicate}
use Rattle.hmac_core.specs.Hmac.{padded_by}
use Rattle.hmac_core.proofs.hmac.padded.Given as goal

abbrev pub invariant-loop-i : goal.invariant-loop-i
invariant-loop-i l = l.block ≡ padded_by l.pad (take l.i l.key) ++ replicate (128 - l.i) l.pad
