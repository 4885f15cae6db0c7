use Rattle.std.proofs.Common.{◌-◌, arith, ap, sym, ◌∙◌}
use Rattle.aes_block.specs.Cipher.{rounds, encrypted}
use Rattle.aes_block.proofs.RoundsLemmas.{rounds_more, rounds_none, finished_after}
use Rattle.aes_block.proofs.cipher.encrypt.Goals as goal

pub loop-number-preserved : goal.loop-number-preserved
loop-number-preserved c =
    rw (c.round-next.ensures, c.round_key-in-loop-number.ensures)
    (sym (rounds_more c.args.words.now c.loop-number.number _ _ c.loop-number.state (omega arith)) ∙ c.loop-number.invariant)

pub returns : goal.returns
unfolding encrypted
returns c =
    rw (c.last_round.ensures, c.round_key-2.ensures)
    (finished_after c.args.words.now c.args.rounds _ _ (omega arith)
    (sym (rounds_none c.args.words.now c.loop-number.number _ c.loop-number.state (omega arith))
    ∙ c.loop-number.invariant
    ∙ ap (rounds c.args.words.now 1 (c.args.rounds - 1)) (rw c.round_key.ensures at c.add_round_key-state.ensures)))
