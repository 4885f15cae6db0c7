use Rattle.std.proofs.Common.{ap, ◌∙◌, ◌≡◌, ◌≤◌, [], take, length, arith}
use Rattle.hmac_core.specs.Hmac.{block_size, filled, padded_by}
use Rattle.hmac_core.proofs.Keyed.{block_within, pads_one_more, pads_all}
use Rattle.hmac_core.proofs.hmac.padded.Goals as goal

pub loop-i-preserved : goal.loop-i-preserved
loop-i-preserved c =
    let within = c.loop-i-test.true in
    pads_one_more c.args.pad 128 c.args.key.now c.loop-i.block c.loop-i.i (omega arith) (omega (arith, c.requires, block_within c.args.kind)) c.loop-i.invariant

pub returns-clause-message : goal.returns-clause-message
returns-clause-message c =
    let past : length c.args.key.now ≤ c.loop-i.i = c.loop-i-test.false in
    let cut : take c.block_size.result c.loop-i.block ≡ padded_by c.args.pad (filled (block_size c.args.kind) c.args.key.now) =
    ap (λ n. take n c.loop-i.block) c.block_size.ensures
    ∙ pads_all c.args.pad (block_size c.args.kind) 128 c.args.key.now c.loop-i.block c.loop-i.i (omega (arith, past, c.loop-i.auto.i-end))
    c.requires (block_within c.args.kind) c.loop-i.invariant in
    rw cut at (c.update.ensures.message [] c.new-hasher.ensures.message)
