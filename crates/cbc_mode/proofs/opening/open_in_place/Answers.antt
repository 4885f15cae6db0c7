use Rattle.std.proofs.Common.{◌≡◌, List, ℕ, sym, ◌∙◌, arith}
use Rattle.aes_block.specs.DataKey.{key_of}
use Rattle.cbc_mode.specs.Cbc.{cbc}
use Rattle.cbc_mode.proofs.Chains.{opened_none, opened_step, opened_all}
use Rattle.cbc_mode.proofs.opening.open_in_place.Goals as goal

pub loop-number-init : goal.loop-number-init
loop-number-init c = opened_none _ _ _

pub loop-number-preserved : goal.loop-number-preserved
loop-number-preserved c =
    opened_step _ _ _ _ _ _ _ c.loop-number.number _ c.loop-number.invariant (omega arith) c.loop-number-test.true
    c.loop-number.auto.buf (omega (arith, c.open_block.auto.block)) c.open_block.ensures.kept c.open_block.ensures.undone

pub returns : goal.returns
returns c =
    let key : List ℕ = key_of c.args.key.now in
    let undone : cbc key c.args.iv.now c.loop-number.buf ≡ c.args.buf.now =
    opened_all _ _ _ _ _ _ c.loop-number.invariant c.loop-number.auto.buf (omega arith) in
    record {
      undone = undone;
      only = λ other other_is same. c.only_these_blocks.ensures other other_is (same ∙ sym undone);
    }
