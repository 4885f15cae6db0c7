use Rattle.std.proofs.Common.{◌≡◌, false, rules}
use Rattle.cred_outer.specs.OuterRules.{is_mac}
use Rattle.cred_outer.proofs.Numbers.{no_mac}
use Rattle.cred_outer.proofs.rules.mac_with.Goals as goal

pub returns-in_err-kind-clause-none : goal.returns-in_err-kind-clause-none
returns-in_err-kind-clause-none c =
    let unknown : is_mac c.args.number ≡ false = no_mac c.args.number c.in_err-kind.ensures.none in
    search rules
