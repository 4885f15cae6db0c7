use Rattle.std.proofs.Common.{◌≡◌, ◌+◌, ◌-◌, refl, arith, ap, ◌∙◌}
use Rattle.aes_block.specs.Rounds.{mix_columns}
use Rattle.aes_block.specs.Cipher.{encrypted}
use Rattle.aes_block.proofs.RoundsLemmas.{LeadsTo_none, LeadsTo_more, LeadsTo_all}
use Rattle.aes_block.proofs.Words.{mix_columns-round_key}
use Rattle.aes_block.proofs.inverse_cipher.decrypt.Goals as goal

pub loop-number-init : goal.loop-number-init
loop-number-init c = (
  omega arith,
  rw (c.add_round_key-state.ensures, c.round_key.ensures)
      (LeadsTo_none c.args.words.now _ _ c.args.rounds c.args.state (omega arith) (omega arith)),
)

pub loop-number-preserved : goal.loop-number-preserved
loop-number-preserved c =
    let place : c.loop-number.number - 1 + 1 ≡ c.loop-number.number = omega arith in (
      omega arith,
      rw place (LeadsTo_more c.args.words.now c.loop-number.number (c.args.rounds - 1 - c.loop-number.number) _ _
          c.round_key-in-loop-number.result c.inverse_round-next.result c.loop-number.state c.args.state
          (ap mix_columns c.round_key-in-loop-number.ensures
          ∙ mix_columns-round_key c.args.words.now c.args.unmixed.now c.loop-number.number c.requires.undone (omega (arith, c.loop-number.invariant.0)))
          refl (omega (arith, c.loop-number.invariant.0)) c.inverse_round-next.ensures c.loop-number.invariant.1),
    )

pub returns : goal.returns
unfolding encrypted
returns c =
    let none : c.loop-number.number ≡ 0 = omega arith in
    LeadsTo_all c.args.words.now c.args.rounds c.loop-number.number c.loop-number.state c.args.state c.inverse_first_round.result none
    c.loop-number.invariant.1 (rw c.round_key-2.ensures at c.inverse_first_round.ensures)
