use Rattle.std.proofs.Common.{arith}
use Rattle.std.proofs.lemmas.List.Elements.{All-from_get_or}
use Rattle.aes_block.specs.DataKey.{key_of}
use Rattle.aes_block.specs.State.{IsBlock}
use Rattle.cbc_mode.specs.Cbc.{IsBlocks}
use Rattle.cbc_mode.proofs.Chains.{IsByte}
use Rattle.cbc_mode.proofs.opening.only_these_blocks.Goals as goal

pub returns : goal.returns
returns c =
    let iv_is : IsBlock c.args.iv.now = record { sixteen = c.told-iv; bytes = All-from_get_or IsByte c.args.iv.now 0 (λ i _. c.fits-iv i) } in
    let blocks_are : IsBlocks c.args.blocks.now =
    record { whole = c.requires; bytes = All-from_get_or IsByte c.args.blocks.now 0 (λ i _. omega (arith, c.type_inv.blocks i)) } in
    λ other other_is same.
    c.chaining_is_one_to_one.ensures.one (key_of c.args.key.now) c.args.iv.now other c.args.blocks.now c.key_is_bytes.ensures iv_is other_is blocks_are same
