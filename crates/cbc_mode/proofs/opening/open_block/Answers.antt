use Rattle.std.proofs.Common.{ap, ◌∙◌, rules}
use Rattle.aes_block.specs.Cipher.{cipher}
use Rattle.aes_block.specs.DataKey.{key_of}
use Rattle.cbc_mode.specs.Cbc.{xor}
use Rattle.cbc_mode.proofs.Xor.{xor_undone}
use Rattle.cbc_mode.proofs.opening.open_block.Goals as goal

pub returns-clause-undone : goal.returns-clause-undone
returns-clause-undone c =
    ap (λ x. cipher (key_of c.args.key.now) (xor x c.args.before.now)) c.add.ensures
    ∙ ap (cipher (key_of c.args.key.now)) (xor_undone c.decrypt.new.block c.args.before.now c.decrypt.array_long c.told-before)
    ∙ c.decrypt.ensures.undone
    ∙ search rules
