use Rattle.std.proofs.Common.{◌≡◌, ap, ◌∙◌, arith}
use Rattle.aes_block.specs.Schedule.{key_bytes}
use Rattle.aes_block.proofs.Blocks.{key_bytes-expanded_key_8}
use Rattle.aes_block.proofs.Keys.{IsSchedule-expanded}
use Rattle.aes_block.proofs.key256.Key256.new.Goals as goal

pub returns : goal.returns
returns c = ap (key_bytes 8) c.expand.ensures ∙ key_bytes-expanded_key_8 c.args.key.now (omega arith)

pub invariant_of-result : goal.invariant_of-result
invariant_of-result c =
    let seen : key_bytes 8 c.expand.new.words ≡ c.args.key.now =
    ap (key_bytes 8) c.expand.ensures ∙ key_bytes-expanded_key_8 c.args.key.now (omega arith) in
    IsSchedule-expanded c.args.key.now 8 c.expand.new.words c.unmix.new.unmixed (omega arith)
    (λ i _. c.fits-key i) seen c.expand.ensures c.unmix.ensures
