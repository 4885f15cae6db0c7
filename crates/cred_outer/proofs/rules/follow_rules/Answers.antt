use Rattle.std.proofs.Common.{◌≡◌, false, slice_index, rules}
use Rattle.cred_outer.specs.OuterRules.{is_cipher}
use Rattle.cred_outer.proofs.Numbers.{no_cipher}
use Rattle.cred_outer.proofs.rules.follow_rules.Goals as goal

pub returns-in_default-clause-broken : goal.returns-in_default-clause-broken
returns-in_default-clause-broken c =
    let unknown : is_cipher (slice_index c.args.body.now 1) ≡ false = no_cipher (slice_index c.args.body.now 1) c.in_default.ensures.none in
    search rules
