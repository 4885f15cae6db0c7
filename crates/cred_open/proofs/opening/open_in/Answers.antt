use Rattle.std.proofs.Common.{◌≡◌, ◌+◌, ◌-◌, arith}
use Rattle.cred_open.specs.OpeningRules.{Refuses}
use Rattle.cred_open.proofs.opening.open_in.Goals as goal

pub returns-in_default-clause-refused : goal.returns-in_default-clause-refused
returns-in_default-clause-refused c = λ key of. Refuses.unspelled c.in_default.ensures.unspelled

pub returns-clause-opened : goal.returns-clause-opened
returns-clause-opened c =
    λ key of.
    let unsealed = c.in_ok-unsealed.unsealed in
    let size : unsealed.at + unsealed.size - unsealed.at ≡ unsealed.size = omega arith in
    c.read_plain.ensures.opened key c.args.text.now _ c.in-Some.ensures.spelled (rw size (c.in_ok-unsealed.ensures.unsealed key of))

pub returns-clause-refused : goal.returns-clause-refused
returns-clause-refused c =
    λ key of.
    let unsealed = c.in_ok-unsealed.unsealed in
    let size : unsealed.at + unsealed.size - unsealed.at ≡ unsealed.size = omega arith in
    c.read_plain.ensures.refused key c.args.text.now _ c.in-Some.ensures.spelled (rw size (c.in_ok-unsealed.ensures.unsealed key of))
